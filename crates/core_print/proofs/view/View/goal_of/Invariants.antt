use Rattle.std.proofs.Common.{◌≡◌, drop}
use Rattle.core_print.specs.Names.{hole_from}
use Rattle.core_print.proofs.view.View.goal_of.Given as goal

abbrev pub invariant-loop-n : goal.invariant-loop-n
invariant-loop-n l = hole_from 0 l.holes l.meta ≡ hole_from l.n (drop l.n l.holes) l.meta
