use Rattle.std.proofs.Common.{◌≡◌, ◌+◌, length}
use Rattle.unify_rules.specs.Joined.{place_in}
use Rattle.index_unify.proofs.rename.place.Given as goal

abbrev pub invariant-loop-left : goal.invariant-loop-left
invariant-loop-left l = place_in l.fn.keep l.fn.var ≡ l.at + place_in l.left l.fn.var

abbrev pub decreases-loop-left : goal.decreases-loop-left
decreases-loop-left l = length l.left
