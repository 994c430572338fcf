use Rattle.std.proofs.Common.{length}
use Rattle.case_terms.proofs.functions.function.Given as goal

abbrev pub decreases-loop-left : goal.decreases-loop-left
decreases-loop-left l = length l.left
