-- When an answer in code is a verdict.
use Rattle.std.specs.Prelude.{ℕ, ◌<◌, List, length}
use Rattle.core_rules.specs.Bounded as B
use Rattle.term_pool.specs.Pool.{Pool, tree}
use Rattle.conversion.specs.declared.conv.Conv as C
use Rattle.conversion.specs.declared.conv.Conv.TheVariants as N

-- V holds of the verdict no with the trees of these ids, which stand in the pool
pub record IsNo (V : B.Verdict → Type 0) (p : Pool) (t u : ℕ) (xs : List ℕ) : Type 0 where
  pub left : t < length p.trees
  pub right : u < length p.trees
  pub is : V (B.No (tree p t) (tree p u) xs)

-- V holds of the verdict that an answer gives, if it gives one
abbrev pub IsVerdict : (B.Verdict → Type 0) → Pool → C.Conv → Type 0
IsVerdict V p N.Yes = V B.Yes
IsVerdict V p (N.No t u xs) = IsNo V p t u xs
IsVerdict V p N.OutOfFuel = V B.OutOfFuel
IsVerdict V p N.OutOfDepth = V B.OutOfDepth
IsVerdict V p (N.Blocked m) = V (B.WaitsFor m)
IsVerdict V p N.NoMemory = Unit {0}
