use Rattle.std.proofs.Common.{◌≡◌, ◌<◌, length, map}
use Rattle.std.specs.List.{AllByRecursion}
use Rattle.core_rules.specs.Mapped.{telescope_map}
use Rattle.core_rules.specs.Elimination.{elims, args}
use Rattle.term_pool.specs.Pool.{Extends, tree}
use Rattle.declared_types.proofs.constructors.at_terms.Given as goal

abbrev pub invariant-loop-left : goal.invariant-loop-left
invariant-loop-left l = record {
  extends : Extends l.fn.pool l.pool;
  made : l.made < length l.pool.trees;
  given : AllByRecursion (λ t. t < length l.fn.pool.trees) l.given;
  is : elims (tree l.pool l.made) (args (telescope_map (tree l.fn.pool) l.left) (map (tree l.fn.pool) l.given))
      ≡ elims (tree l.fn.pool l.fn.head) (args (telescope_map (tree l.fn.pool) l.entries) (map (tree l.fn.pool) l.terms));
}

abbrev pub decreases-loop-left : goal.decreases-loop-left
decreases-loop-left l = length l.left
