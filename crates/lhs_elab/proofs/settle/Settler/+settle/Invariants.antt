use Rattle.std.proofs.Common.{◌+◌, ◌*◌, drop}
use Rattle.core_terms.specs.Patterns.{pats_of}
use Rattle.core_terms.specs.Sizes.{pat_size, pats_size}
use Rattle.lhs_elab.proofs.SettlingAll.{SettledTo}
use Rattle.lhs_elab.proofs.settle.Settler.+settle.Given as goal

abbrev pub invariant-settle_pats-loop-pat : goal.invariant-settle_pats-loop-pat
invariant-settle_pats-loop-pat l = record {
  so : SettledTo l.fn.self l.self l.pats l.made.items (drop l.pat-index l.pats);
}

abbrev pub decreases-settle_pats : goal.decreases-settle_pats
decreases-settle_pats l = 3 * pats_size (pats_of l.pats.now)

abbrev pub decreases-settle_pat : goal.decreases-settle_pat
decreases-settle_pat l = 3 * pat_size l.pat.now + 2

abbrev pub decreases-settle_shape : goal.decreases-settle_shape
decreases-settle_shape l = 3 * pat_size l.pat.now + 1
