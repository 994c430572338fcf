use Rattle.std.proofs.Common.{◌≡◌, length}
use Rattle.data_rules.specs.Families.{is_coinductive}
use Rattle.data_elab.proofs.record.is_coinductive.Given as goal

abbrev pub invariant-loop-left : goal.invariant-loop-left
invariant-loop-left l = is_coinductive l.left ≡ is_coinductive l.items

abbrev pub decreases-loop-left : goal.decreases-loop-left
decreases-loop-left l = length l.left
