use Rattle.std.proofs.Common.{◌≡◌, length, map, take}
use Rattle.core_rules.specs.Term.{Proj}
use Rattle.term_pool.specs.Pool.{Extends, tree}
use Rattle.weak_head.specs.States.{Ids}
use Rattle.weak_head.proofs.at_tree.projections.Given as goal

abbrev pub invariant-loop-field : goal.invariant-loop-field
invariant-loop-field l = record {
  extends : Extends l.fn.pool l.pool;
  below : Ids (length l.pool.trees) l.all.items;
  is : map (tree l.pool) l.all.items ≡ map (λ f. Proj f (tree l.fn.pool l.v)) (take l.field-index l.field-items);
}
