use Rattle.std.proofs.Common.{◌≡◌, length}
use Rattle.data_rules.specs.Families.{con_name}
use Rattle.data_elab.proofs.record.con_name.Given as goal

abbrev pub invariant-loop-left : goal.invariant-loop-left
invariant-loop-left l = con_name l.left ≡ con_name l.items

abbrev pub decreases-loop-left : goal.decreases-loop-left
decreases-loop-left l = length l.left
