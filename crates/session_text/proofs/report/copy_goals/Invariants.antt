use Rattle.std.proofs.Common.{◌≡◌, ◌++◌, length}
use Rattle.session_text.proofs.report.copy_goals.Given as goal

abbrev pub invariant-loop-left : goal.invariant-loop-left
invariant-loop-left l = l.goals ≡ l.copies.items ++ l.left

abbrev pub decreases-loop-left : goal.decreases-loop-left
decreases-loop-left l = length l.left
