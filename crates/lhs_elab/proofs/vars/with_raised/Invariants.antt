use Rattle.std.proofs.Common.{◌≡◌, ◌<◌, ◌++◌, length, map}
use Rattle.std.specs.List.{AllByRecursion}
use Rattle.core_rules.specs.Substitution.{shift}
use Rattle.term_pool.specs.Pool.{Extends, tree}
use Rattle.lhs_elab.proofs.vars.with_raised.Given as goal

abbrev pub invariant-loop-left : goal.invariant-loop-left
invariant-loop-left l = record {
  extends : Extends l.fn.pool l.pool;
  below : AllByRecursion (λ t. t < length l.pool.trees) l.made.items;
  left : AllByRecursion (λ t. t < length l.fn.pool.trees) l.left;
  is : map (tree l.pool) l.made.items ++ map (λ t. shift t 0 l.fn.by) (map (tree l.fn.pool) l.left)
      ≡ map (tree l.fn.pool) l.fn.terms.items ++ map (λ t. shift t 0 l.fn.by) (map (tree l.fn.pool) l.fn.list);
}

abbrev pub decreases-loop-left : goal.decreases-loop-left
decreases-loop-left l = length l.left
