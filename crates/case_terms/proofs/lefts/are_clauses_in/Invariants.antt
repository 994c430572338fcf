use Rattle.std.proofs.Common.{◌<◌, length}
use Rattle.std.specs.List.{AllByRecursion}
use Rattle.core_rules.specs.Mapped.{AllClause}
use Rattle.case_terms.proofs.lefts.are_clauses_in.Given as goal

abbrev pub invariant-loop-left : goal.invariant-loop-left
invariant-loop-left l = AllByRecursion (AllClause (λ t. t < length l.pool.trees)) l.left → AllByRecursion (AllClause (λ t. t < length l.pool.trees)) l.clauses

abbrev pub decreases-loop-left : goal.decreases-loop-left
decreases-loop-left l = length l.left
