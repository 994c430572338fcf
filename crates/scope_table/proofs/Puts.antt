-- A text or a global after others.
use Rattle.std.proofs.Common.{◌≡◌, ℕ, ◌+◌, Bool, true, false, cond, ◌||◌, List, [], ◌∷◌, ◌++◌, map, Option, Some, None, is_some, if◌then◌else◌, refl, sym, ap, ◌∙◌, true≢false}
use Rattle.std.specs.List.{position_from, list_any}
use Rattle.std.specs.Str.{bytes_eq}
use Rattle.std.specs.Map.{lookup}
use Rattle.std.proofs.lemmas.List.{map-append}
use Rattle.indexmap.specs.IndexMap.{insert_entry}
use Rattle.scope_table.specs.declared.global.GlobalId.{GlobalId}
use Rattle.scope_table.specs.Known.{place_of, global_in, with_global_in, with_text}
use Rattle.scope_table.proofs.Places.{lookup-global_in}

-- what is at no place is not there
nowhere : {A : Type 0} (test : A → Bool) (i : ℕ) (xs : List A) → position_from test i xs ≡ None → list_any test xs ≡ false
nowhere test i [] e = refl
nowhere test i (x ∷ xs) e = of (test x) refl e (nowhere test (i + 1) xs)
  where
    of : (b : Bool) → test x ≡ b → cond b (Some i) (position_from test (i + 1) xs) ≡ None → (position_from test (i + 1) xs ≡ None → list_any test xs ≡ false) → (test x || list_any test xs) ≡ false
    of true is k rest = cc
    of false is k rest = rw is (rest k)

any-map : {A : Type 0} (f : A → List ℕ) (q : List ℕ) (xs : List A) → list_any (bytes_eq q) (map f xs) ≡ list_any (λ y. bytes_eq q (f y)) xs
any-map f q [] = refl
any-map f q (x ∷ xs) = ap (λ (b : Bool). bytes_eq q (f x) || b) (any-map f q xs)

none_of : {A : Type 0} (o : Option A) → is_some o ≡ false → o ≡ None
none_of None e = refl
none_of (Some x) e = absurd (true≢false e)

pub texts-put : {A : Type 0} (f : A → List ℕ) (xs ys : List A) (x : A) (ns : List (List ℕ)) (q : List ℕ)
    → ys ≡ (if list_any (λ y. bytes_eq (f x) (f y)) xs then xs else xs ++ x ∷ []) → f x ≡ q → map f xs ≡ ns → is_some (place_of ns q) ≡ false → map f ys ≡ with_text ns q
texts-put f xs ys x ns q is name old none =
    let absent : list_any (λ y. bytes_eq (f x) (f y)) xs ≡ false = sym (any-map f (f x) xs) ∙ nowhere (bytes_eq (f x)) 0 (map f xs) (rw (old, name) (none_of (place_of ns q) none)) in
    rw (is, absent, none, map-append f xs (x ∷ []), name, old) refl

pub with_text-there : (ns : List (List ℕ)) (q : List ℕ) → is_some (place_of ns q) ≡ true → with_text ns q ≡ ns
with_text-there ns q e = rw e refl

pub with_text-new : (ns : List (List ℕ)) (q : List ℕ) → is_some (place_of ns q) ≡ false → with_text ns q ≡ ns ++ q ∷ []
with_text-new ns q e = rw e refl

-- ---- globals

entry_of : {A : Type 0} → (A → List ℕ) → A × GlobalId → List ℕ × GlobalId
entry_of f e = (f e.0, e.1)

insert-absent : {A : Type 0} (f : A → List ℕ) (x : A) (i : GlobalId) (es : List (A × GlobalId)) → lookup (λ k. bytes_eq (f x) (f k)) es ≡ None
    → insert_entry (λ a b. bytes_eq (f a) (f b)) es x i ≡ es ++ (x, i) ∷ []
insert-absent f x i [] e = refl
insert-absent {A = A} f x i (y ∷ es) e = of (bytes_eq (f x) (f y.0)) refl e (insert-absent f x i es)
  where
    of : (b : Bool) → bytes_eq (f x) (f y.0) ≡ b → cond b (Some y.1) (lookup (λ k. bytes_eq (f x) (f k)) es) ≡ None
        → (lookup (λ k. bytes_eq (f x) (f k)) es ≡ None → insert_entry (λ a b. bytes_eq (f a) (f b)) es x i ≡ es ++ (x, i) ∷ [])
        → insert_entry (λ a b. bytes_eq (f a) (f b)) (y ∷ es) x i ≡ y ∷ es ++ (x, i) ∷ []
    of true is k rest = cc
    of false is k rest = rw is (ap (λ (l : List (A × GlobalId)). y ∷ l) (rest k))

pub globals-put : {A : Type 0} (f : A → List ℕ) (es fs : List (A × GlobalId)) (x : A) (i : GlobalId) (gs : List (List ℕ × GlobalId)) (q : List ℕ)
    → fs ≡ insert_entry (λ a b. bytes_eq (f a) (f b)) es x i → f x ≡ q → map (λ (e : A × GlobalId). (f e.0, e.1)) es ≡ gs → is_some (global_in gs q) ≡ false
    → map (λ (e : A × GlobalId). (f e.0, e.1)) fs ≡ with_global_in gs q i
globals-put {A = A} f es fs x i gs q is name old none =
    let absent : lookup (λ k. bytes_eq (f x) (f k)) es ≡ None = lookup-global_in f (f x) es ∙ rw (old, name) (none_of (global_in gs q) none) in
    let g : A × GlobalId → List ℕ × GlobalId = λ e. (f e.0, e.1) in
    rw (is, insert-absent f x i es absent, none, map-append g es ((x, i) ∷ []), name, old) refl
