use Rattle.std.proofs.Common.{◌≡◌, ◌<◌, length}
use Rattle.core_rules.specs.Mapped.{telescope_map}
use Rattle.core_rules.specs.Elimination.{elims, args, vars_from}
use Rattle.term_pool.specs.Pool.{Extends, tree}
use Rattle.lhs_elab.proofs.opening.at_variables.Given as goal

abbrev pub invariant-loop-left : goal.invariant-loop-left
invariant-loop-left l = record {
  extends : Extends l.fn.pool l.pool;
  made : l.made < length l.pool.trees;
  is : elims (tree l.pool l.made) (args (telescope_map (tree l.fn.pool) l.left) (vars_from 0 (length l.left)))
      ≡ elims (tree l.fn.pool l.fn.head) (args (telescope_map (tree l.fn.pool) l.entries) (vars_from 0 (length l.entries)));
}

abbrev pub decreases-loop-left : goal.decreases-loop-left
decreases-loop-left l = length l.left
