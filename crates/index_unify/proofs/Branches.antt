-- The entries and the values of a branch, one after the other.
use Rattle.std.specs.Prelude.{◌≡◌, ℕ, ◌+◌, ◌-◌, ◌<◌, ◌≤◌, List, [], ◌∷◌, ◌++◌, length, map, reverse, get_or, slice_get, take, drop, Option, Some, None, option_map, refl, zero, suc}
use mathlib.Core.List.{reverse_aux}
use Rattle.std.proofs.Common.{sym, ap, ◌∙◌, arith}
use Rattle.std.proofs.lemmas.List.{get_or-reverse, length-reverse}
use Rattle.std.proofs.lemmas.Option.{slice_get-map, slice_get-get_or}
use Rattle.std.proofs.lemmas.Grind.{common_steps, reverse_onto}
use Rattle.el_base.proofs.Lists.{drop_next, reverse_push, map-reverse}
use Rattle.core_rules.specs.Term.{Term}
use Rattle.core_rules.specs.Substitution.{value_at}
use Rattle.core_rules.specs.Signature.{Entry, Context, Telescope, Branch, onto}
use Rattle.core_rules.specs.Mapped.{entry_map, telescope_map}
use Rattle.core_rules.specs.Unification as U
use Rattle.unify_rules.specs.Joined.{value_of, rename, value_or_place, values_from, with_type, entries_of}
use Rattle.term_pool.specs.Pool.{Pool, tree, Extends}
use Rattle.index_unify.specs.Unified.{context_in}
use Rattle.index_unify.specs.Renaming.{with_type_ids}
use Rattle.index_unify.proofs.Grown.{EntryStands, entry_in, entries, Made, all_taken, pushed}

-- ---- values

pub values_next : (ss : List U.Solution) (ks : List ℕ) (k n : ℕ) → values_from ss ks k (n + 1) ≡ values_from ss ks k n ++ value_or_place ks (k + n) (value_of ss (k + n)) ∷ []
values_next ss ks k n = ap (values_from ss ks k) s ∙ by k n
  where
    s : n + 1 ≡ suc n
    s = omega arith

    by : (k n : ℕ) → values_from ss ks k (suc n) ≡ values_from ss ks k n ++ value_or_place ks (k + n) (value_of ss (k + n)) ∷ []
    by k zero = ap (λ i. value_or_place ks i (value_of ss i) ∷ []) (omega arith)
    by k (suc n) = let i : suc k + n ≡ k + suc n = omega arith in
        ap (λ r. value_or_place ks k (value_of ss k) ∷ r) (by (suc k) n ∙ ap (λ i. values_from ss ks (suc k) n ++ value_or_place ks i (value_of ss i) ∷ []) i)

-- ---- entries

onto_is : {A : Type 0} (es : Telescope A) (c : Context A) → onto es c ≡ reverse_aux es c
onto_is [] c = refl
onto_is (e ∷ es) c = onto_is es (e ∷ c)

pub context_is : (p : Pool) (es : Telescope ℕ) → context_in p es ≡ telescope_map (tree p) (reverse es)
context_is p es = onto_is (telescope_map (tree p) es) [] ∙ sym (map-reverse (entry_map (tree p)) es)

pub context_push : (p : Pool) (es : Telescope ℕ) (e : Entry ℕ) → context_in p (es ++ e ∷ []) ≡ entry_map (tree p) e ∷ context_in p es
context_push p es e = context_is p (es ++ e ∷ []) ∙ (ap (telescope_map (tree p)) (reverse_push es e) ∙ ap (λ r. entry_map (tree p) e ∷ r) (sym (context_is p es)))

-- the entry with another type is the same, whatever its type was
typed_in : (f : ℕ → Term) (h : Term → Term) (f' : ℕ → Term) (o : Option (Entry ℕ)) (i : ℕ) (t : Term) → f i ≡ t → entry_map f (with_type_ids o i) ≡ with_type (option_map (entry_map h) (option_map (entry_map f') o)) t
typed_in f h f' None i t e = ap (λ t. with_type None t) e
typed_in f h f' (Some d) i t e = ap (λ t. with_type (Some (entry_map h (entry_map f' d))) t) e

pub typed_entry : (p q : Pool) (h : Term → Term) (es : Telescope ℕ) (k i : ℕ) (t : Term) → tree q i ≡ t → entry_map (tree q) (with_type_ids (slice_get (reverse es) k) i) ≡ with_type (slice_get (telescope_map h (context_in p es)) k) t
typed_entry p q h es k i t e =
    typed_in (tree q) h (tree p) (slice_get (reverse es) k) i t e
    ∙ ap (λ o. with_type o t)
    (ap (option_map (entry_map h)) (sym (slice_get-map (entry_map (tree p)) (reverse es) k)) ∙ (sym (slice_get-map (entry_map h) (telescope_map (tree p) (reverse es)) k) ∙ ap (λ c. slice_get (telescope_map h c) k) (sym (context_is p es))))

-- one more entry outside the others
pub entries_next : (c : Context Term) (ts : List Term) (ks js : List ℕ) (k : ℕ) → js ≡ k ∷ ks → reverse (entries_of c ts js) ≡ reverse (entries_of c ts ks) ++ with_type (slice_get c k) (rename ks (value_at ts k)) ∷ []
entries_next c ts ks js k e = ap (λ js. reverse (entries_of c ts js)) e ∙ reverse_cons (with_type (slice_get c k) (rename ks (value_at ts k))) (entries_of c ts ks)
  where
    reverse_cons : (x : Entry Term) (xs : List (Entry Term)) → reverse (x ∷ xs) ≡ reverse xs ++ x ∷ []
    reverse_cons x xs = reverse_onto xs x []

-- the entry of a variable
pub entry_at : {X : Type 0} (xs : List X) (k i : ℕ) (x : X) → k < length xs → i ≡ length xs - 1 - k → x ≡ get_or xs i x → slice_get (reverse xs) k ≡ Some x
entry_at xs k i x l e h =
    let n = length-reverse xs in
    slice_get-get_or (reverse xs) k x (omega (arith, l, n)) ∙ ap Some (get_or-reverse xs k x l ∙ (ap (λ j. get_or xs j x) (sym e) ∙ sym h))

has_type : (o : Option (Entry ℕ)) (a : ℕ) → (with_type_ids o a).ty ≡ a
has_type None a = refl
has_type (Some e) a = refl

-- the entries of js, which are k and ks
module _ (p q r : Pool) (g : Extends q r) (old all more : Telescope ℕ) (types ks js : List ℕ) (k ty : ℕ) (e : Entry ℕ) (js_is : js ≡ k ∷ ks) (e_is : e ≡ with_type_ids (slice_get (reverse old) k) ty) (push : more ≡ all ++ e ∷ [])
    (below : ty < length r.trees) (is : tree r ty ≡ rename ks (value_at (map (tree p) types) k)) where
  stands : EntryStands (length r.trees) e
  stands = let t : e.ty ≡ ty = ap (λ (x : Entry ℕ). x.ty) e_is ∙ has_type (slice_get (reverse old) k) ty in omega (arith, t, below)

  pub entries_more : (h : Term → Term) → Made EntryStands entry_in q all (reverse (entries_of (telescope_map h (context_in p old)) (map (tree p) types) ks)) → Made EntryStands entry_in r more (reverse (entries_of (telescope_map h (context_in p old)) (map (tree p) types) js))
  entries_more h m =
      let c = telescope_map h (context_in p old) in
      let t = rename ks (value_at (map (tree p) types) k) in
      pushed EntryStands entry_in entries q r g all more (reverse (entries_of c (map (tree p) types) ks)) (reverse (entries_of c (map (tree p) types) js)) e (with_type (slice_get c k) t) m stands
      (ap (entry_map (tree r)) e_is ∙ typed_entry p r h old k ty t is) push (entries_next c (map (tree p) types) ks js k js_is)

-- ---- branches

pub same_branch : {c d : Telescope Term} {ts us : List Term} {ks js : List ℕ} → c ≡ d → ts ≡ us → ks ≡ js → ◌≡◌ {A = Branch Term} (record { context = c; values = ts; keep = ks }) (record { context = d; values = us; keep = js })
same_branch e f g = cc

-- ---- the variables that are kept, from one of them on

same_or : {X : Type 0} (xs : List X) (i : ℕ) (o d : X) → i < length xs → get_or xs i o ≡ get_or xs i d
same_or [] i o d l = absurd (omega arith)
same_or (x ∷ xs) zero o d l = refl
same_or (x ∷ xs) (suc i) o d l = same_or xs i o d (omega arith)

module _ (xs : List ℕ) (n : ℕ) (l : 0 < n) (k : n ≤ length xs) where
  pub one_more : drop (n - 1) xs ≡ get_or xs (n - 1) 0 ∷ drop n xs
  one_more =
      let i : n - 1 < length xs = omega (arith, l, k) in
      let s : n - 1 + 1 ≡ n = omega (arith, l) in
      drop_next xs (n - 1) (get_or xs (n - 1) 0) i (same_or xs (n - 1) 0 (get_or xs (n - 1) 0) i) ∙ ap (λ m. get_or xs (n - 1) 0 ∷ drop m xs) s

  pub those_outside : take (length xs - (n - 1 + 1)) (drop (n - 1 + 1) xs) ≡ drop n xs
  those_outside =
      let s : n - 1 + 1 ≡ n = omega (arith, l) in
      let m : length xs - n ≡ length (drop n xs) = grind (arith, common_steps) in
      ap (λ m. take (length xs - m) (drop m xs)) s ∙ all_taken (drop n xs) (length xs - n) m

pub front_taken : {X : Type 0} (xs ys : List X) (n : ℕ) → n ≡ length xs → take n (xs ++ ys) ≡ xs
front_taken xs ys n e = grind (arith, common_steps)

pub context_length : (p : Pool) (h : Term → Term) (es : Telescope ℕ) → length (telescope_map h (context_in p es)) ≡ length es
context_length p h es =
    let e : length (telescope_map h (telescope_map (tree p) (reverse es))) ≡ length es = grind (arith, common_steps) in
    ap (λ c. length (telescope_map h c)) (context_is p es) ∙ e
