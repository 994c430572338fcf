use Rattle.std.proofs.Common.{◌≡◌, ◌<◌, ◌++◌, length, map}
use Rattle.std.specs.List.{AllByRecursion}
use Rattle.core_rules.specs.Term.{Proj}
use Rattle.term_pool.specs.Pool.{Extends, tree}
use Rattle.declared_types.proofs.records.with_fields.Given as goal

abbrev pub invariant-loop-left : goal.invariant-loop-left
invariant-loop-left l = record {
  extends : Extends l.fn.pool l.pool;
  below : AllByRecursion (λ t. t < length l.pool.trees) l.env.items;
  is : map (tree l.pool) l.env.items ++ map (λ f. Proj f (tree l.fn.pool l.of)) l.left ≡ map (tree l.fn.pool) l.fn.terms.items ++ map (λ f. Proj f (tree l.fn.pool l.of)) l.fields;
}

abbrev pub decreases-loop-left : goal.decreases-loop-left
decreases-loop-left l = length l.left
