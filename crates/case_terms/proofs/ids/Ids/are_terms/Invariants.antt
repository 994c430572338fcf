use Rattle.std.proofs.Common.{length}
use Rattle.std.specs.List.{AllByRecursion}
use Rattle.case_terms.specs.Known.{IsTermUnder}
use Rattle.case_terms.proofs.ids.Ids.are_terms.Given as goal

abbrev pub invariant-loop-left : goal.invariant-loop-left
invariant-loop-left l = AllByRecursion (IsTermUnder l.self l.under) l.left → AllByRecursion (IsTermUnder l.self l.under) l.terms

abbrev pub decreases-loop-left : goal.decreases-loop-left
decreases-loop-left l = length l.left
