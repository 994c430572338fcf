use Rattle.std.proofs.Common.{length}
use Rattle.std.specs.List.{AllByRecursion}
use Rattle.case_terms.specs.Known.{IsConUnder}
use Rattle.case_terms.proofs.ids.Ids.are_constructors.Given as goal

abbrev pub invariant-loop-left : goal.invariant-loop-left
invariant-loop-left l = AllByRecursion (IsConUnder l.self l.under) l.left → AllByRecursion (IsConUnder l.self l.under) l.cons

abbrev pub decreases-loop-left : goal.decreases-loop-left
decreases-loop-left l = length l.left
