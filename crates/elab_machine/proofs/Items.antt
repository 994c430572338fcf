-- What holds of each item, of a part and after an item is set.
use Rattle.std.proofs.Common.{ℕ, zero, suc, List, [], ◌∷◌, drop, set}
use Rattle.std.specs.List.{AllByRecursion}

pub all-dropped : {X : Type 0} (P : X → Type 0) (n : ℕ) (xs : List X) → AllByRecursion P xs → AllByRecursion P (drop n xs)
all-dropped P zero xs a = a
all-dropped P (suc n) [] a = tt
all-dropped P (suc n) (x ∷ xs) a = all-dropped P n xs a.1

pub all-set : {X : Type 0} (P : X → Type 0) (xs : List X) (i : ℕ) (x : X) → AllByRecursion P xs → P x → AllByRecursion P (set xs i x)
all-set P [] i x a h = tt
all-set P (y ∷ xs) zero x a h = (h, a.1)
all-set P (y ∷ xs) (suc i) x a h = (a.0, all-set P xs i x a.1 h)
