-- Places in lists of texts.
use Rattle.std.proofs.Common.{◌≡◌, ℕ, ◌+◌, Bool, cond, List, [], ◌∷◌, map, Some, refl, ap, ◌∙◌}
use Rattle.std.specs.List.{position, position_from}
use Rattle.std.specs.Map.{lookup}
use Rattle.std.specs.Str.{bytes_eq}
use Rattle.std.proofs.lemmas.Iterator.Adapters.{position_from-zero}
use Rattle.scope_table.specs.declared.global.GlobalId.{GlobalId}
use Rattle.scope_table.specs.Known.{place_of, global_in}

position_from-map : {A B : Type 0} (test : B → Bool) (f : A → B) (i : ℕ) (xs : List A) → position_from (λ x. test (f x)) i xs ≡ position_from test i (map f xs)
position_from-map test f i [] = refl
position_from-map test f i (x ∷ xs) = ap (cond (test (f x)) (Some i)) (position_from-map test f (i + 1) xs)

pub position-place_of : {A : Type 0} (f : A → List ℕ) (xs : List A) (q : List ℕ) → position (λ x. bytes_eq q (f x)) xs ≡ place_of (map f xs) q
position-place_of f xs q = position_from-zero (λ x. bytes_eq q (f x)) xs ∙ position_from-map (bytes_eq q) f 0 xs

pub lookup-global_in : {A : Type 0} (f : A → List ℕ) (q : List ℕ) (es : List (A × GlobalId))
    → lookup (λ k. bytes_eq q (f k)) es ≡ global_in (map (λ (e : A × GlobalId). (f e.0, e.1)) es) q
lookup-global_in f q [] = refl
lookup-global_in f q (e ∷ es) = ap (cond (bytes_eq q (f e.0)) (Some e.1)) (lookup-global_in f q es)
