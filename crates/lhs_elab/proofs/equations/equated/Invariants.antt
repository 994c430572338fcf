use Rattle.std.proofs.Common.{◌≡◌, ◌<◌, ◌++◌, length, map}
use Rattle.std.specs.List.{AllByRecursion}
use Rattle.core_rules.specs.Substitution.{shift, under}
use Rattle.core_rules.specs.TypedTree.{equations}
use Rattle.term_pool.specs.Pool.{Extends, tree}
use Rattle.index_unify.specs.Unified.{EquationStands, equations_in}
use Rattle.lhs_elab.proofs.equations.equated.Given as goal

abbrev pub invariant-loop-left : goal.invariant-loop-left
invariant-loop-left l = record {
  extends : Extends l.fn.pool l.pool;
  below : AllByRecursion (EquationStands (length l.pool.trees)) l.made.items;
  left : AllByRecursion (λ t. t < length l.fn.pool.trees) l.left;
  others : AllByRecursion (λ t. t < length l.fn.pool.trees) l.others;
  is : equations_in l.pool l.made.items ++ equations (map (λ t. shift (under (map (tree l.fn.pool) l.fn.env) t) 0 l.fn.inner) (map (tree l.fn.pool) l.left)) (map (λ t. shift t 0 l.fn.by) (map (tree l.fn.pool) l.others))
      ≡ equations (map (λ t. shift (under (map (tree l.fn.pool) l.fn.env) t) 0 l.fn.inner) (map (tree l.fn.pool) l.fn.ends)) (map (λ t. shift t 0 l.fn.by) (map (tree l.fn.pool) l.fn.own));
}

abbrev pub decreases-loop-left : goal.decreases-loop-left
decreases-loop-left l = length l.left
