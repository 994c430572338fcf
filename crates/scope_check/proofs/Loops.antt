-- Lists of results and of binders, one item further.
use Rattle.std.proofs.Common.{◌≡◌, ◌<◌, ◌≤◌, ℕ, ◌+◌, List, [], ◌∷◌, ◌++◌, map, drop, length, get_or, ap, Ok}
use Rattle.std.proofs.lemmas.List.{drop_all}
use Rattle.el_base.proofs.Lists.{drop_next}
use Rattle.scope_check.specs.Answers.{Checked, and_then, each_from}
use Rattle.scope_check.specs.Exprs.{BinderMeaning, Locals, binders_from}

module _ {A B : Type 0} (f : A → Checked B) (found : List B) (xs : List A) (i : ℕ) where
  pub each_next : (x : A) → i < length xs → x ≡ get_or xs i x
      → each_from found (map f (drop i xs)) ≡ and_then (f x) (λ y. each_from (found ++ y ∷ []) (map f (drop (i + 1) xs)))
  unfolding each_from
  each_next x lt e = ap (λ (l : List A). each_from found (map f l)) (drop_next xs i x lt e)

  pub each_end : length xs ≤ i → each_from found (map f (drop i xs)) ≡ Ok found
  unfolding each_from
  each_end le = ap (λ (l : List A). each_from found (map f l)) (drop_all i xs le)

module _ {A : Type 0} (f : A → BinderMeaning) (xs : List A) (i : ℕ) (ls : Locals) where
  pub binders_next : (x : A) (found : List _) → i < length xs → x ≡ get_or xs i x
      → binders_from found (map f (drop i xs)) ls ≡ and_then (f x ls) (λ b. binders_from (found ++ b.0 ∷ []) (map f (drop (i + 1) xs)) b.1)
  unfolding binders_from
  binders_next x found lt e = ap (λ (l : List A). binders_from found (map f l) ls) (drop_next xs i x lt e)

  pub binders_end : (found : List _) → length xs ≤ i → binders_from found (map f (drop i xs)) ls ≡ Ok (found, ls)
  unfolding binders_from
  binders_end found le = ap (λ (l : List A). binders_from found (map f l) ls) (drop_all i xs le)
