use Rattle.std.proofs.Common.{◌≡◌, ℕ, List, length}
use Rattle.scope_table.specs.Known.{Inside}
use Rattle.scope_table.proofs.locals.Locals.cut.Given as goal

abbrev pub invariant-loop-self : goal.invariant-loop-self
invariant-loop-self l = (outer : List (List ℕ)) → Inside outer l.fn.self → length outer ≡ l.len → Inside outer l.self

abbrev pub decreases-loop-self : goal.decreases-loop-self
decreases-loop-self l = length l.self
