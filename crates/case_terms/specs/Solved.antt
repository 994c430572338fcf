-- Two metavariables that are solved: the second by the first at arguments.
use Rattle.std.specs.Prelude.{ℕ, Option, Some, None, zero, suc}

-- metavariable 0 has the solution a, 1 the solution b
abbrev pub both_solved : ℕ → ℕ → ℕ → Option ℕ
both_solved a b zero = Some a
both_solved a b (suc zero) = Some b
both_solved a b (suc (suc m)) = None
