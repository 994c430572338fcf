use Rattle.std.proofs.Common.{◌≡◌, ◌<◌, ◌≤◌, ◌-◌, length, drop}
use Rattle.core_rules.specs.Elimination.{elims}
use Rattle.term_pool.specs.Pool.{Extends, tree}
use Rattle.weak_head.specs.Elims.{spine_in}
use Rattle.weak_head.proofs.bounded.applied.Given as goal

abbrev pub invariant-loop-elim : goal.invariant-loop-elim
invariant-loop-elim l = record {
  extends : Extends l.fn.pool l.pool;
  made : l.made < length l.pool.trees;
  within : l.n ≤ length l.term.spine.items;
  is : elims (tree l.pool l.made) (drop l.n (spine_in (tree l.fn.pool) l.term.spine.items)) ≡ elims (tree l.fn.pool l.term.head) (spine_in (tree l.fn.pool) l.term.spine.items);
}

abbrev pub decreases-loop-elim : goal.decreases-loop-elim
decreases-loop-elim l = length l.term.spine.items - l.n
