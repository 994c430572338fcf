use Rattle.std.proofs.Common.{length}
use Rattle.case_terms.specs.Known.{AreTypesUnder}
use Rattle.case_terms.proofs.ids.Ids.are_types.Given as goal

abbrev pub invariant-loop-left : goal.invariant-loop-left
invariant-loop-left l = AreTypesUnder l.self l.around l.left → AreTypesUnder l.self l.under l.entries

abbrev pub decreases-loop-left : goal.decreases-loop-left
decreases-loop-left l = length l.left
