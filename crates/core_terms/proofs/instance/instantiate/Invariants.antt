use Rattle.std.proofs.Common.{◌<◌, length}
use Rattle.std.specs.List.{AllByRecursion}
use Rattle.term_pool.specs.Pool.{Extends}
use Rattle.core_terms.specs.Solutions.{AreInstances, solved_in}
use Rattle.core_terms.proofs.instance.instantiate.Given as goal

abbrev pub invariant-loop-turn : goal.invariant-loop-turn
invariant-loop-turn g l = record {
  extends : Extends l.initial.pool l.pool;
  made : AreInstances (solved_in l.initial.pool (g.S.Solutions.solution l.sol)) l.table l.pool;
  pending : AllByRecursion (λ i. i < length l.pool.trees) l.pending.items;
}
