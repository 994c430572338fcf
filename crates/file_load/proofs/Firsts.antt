-- The first place of a list, one item further.
use Rattle.std.proofs.Common.{◌≡◌, ◌<◌, ◌≤◌, ℕ, ◌+◌, List, map, drop, length, get_or, None, ap}
use Rattle.std.specs.Prelude.{Option}
use Rattle.std.proofs.lemmas.List.{drop_all}
use Rattle.el_base.proofs.Lists.{drop_next}
use Rattle.file_load.specs.Unbuilt.{or_else, first_by, first_of}

module _ {A : Type 0} (f : A → Option ℕ) (xs : List A) (i : ℕ) where
  pub first_next : (x : A) → i < length xs → x ≡ get_or xs i x → first_of (map f (drop i xs)) ≡ or_else (f x) (first_of (map f (drop (i + 1) xs)))
  first_next x lt e = ap (λ (l : List A). first_of (map f l)) (drop_next xs i x lt e)

  pub first_end : length xs ≤ i → first_of (map f (drop i xs)) ≡ None
  first_end le = ap (λ (l : List A). first_of (map f l)) (drop_all i xs le)

pub first_by_next : {A B : Type 0} (f : A → B) (p : B → Option ℕ) (xs : List A) (i : ℕ) (x : A) → i < length xs → x ≡ get_or xs i x → first_by p (map f (drop i xs)) ≡ or_else (p (f x)) (first_by p (map f (drop (i + 1) xs)))
first_by_next f p xs i x lt e = ap (λ l. first_by p (map f l)) (drop_next xs i x lt e)
