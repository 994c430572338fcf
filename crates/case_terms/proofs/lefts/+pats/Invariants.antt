use Rattle.std.proofs.Common.{◌<◌, ◌+◌, ◌*◌, drop, length}
use Rattle.core_rules.specs.Mapped.{AllPats}
use Rattle.core_terms.specs.Patterns.{pats_of}
use Rattle.core_terms.specs.Sizes.{pat_size, pats_size}
use Rattle.case_terms.proofs.lefts.+pats.Given as goal

abbrev pub invariant-are_pats_in-loop-pat : goal.invariant-are_pats_in-loop-pat
invariant-are_pats_in-loop-pat l =
    AllPats (λ t. t < length l.pool.trees) (pats_of (drop l.pat-index l.pats)) → AllPats (λ t. t < length l.pool.trees) (pats_of l.pats)

abbrev pub decreases-are_pats_in : goal.decreases-are_pats_in
decreases-are_pats_in l = 2 * pats_size (pats_of l.pats.now)

abbrev pub decreases-is_pat_in : goal.decreases-is_pat_in
decreases-is_pat_in l = 2 * pat_size l.pat.now + 1
