use Rattle.std.proofs.Common.{◌<◌, length}
use Rattle.core_rules.specs.Mapped.{AllEntries}
use Rattle.case_terms.proofs.scope.are_entries.Given as goal

abbrev pub invariant-loop-left : goal.invariant-loop-left
invariant-loop-left l = AllEntries (λ t. t < length l.pool.trees) l.left → AllEntries (λ t. t < length l.pool.trees) l.entries

abbrev pub decreases-loop-left : goal.decreases-loop-left
decreases-loop-left l = length l.left
