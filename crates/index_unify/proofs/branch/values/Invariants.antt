use Rattle.std.specs.Prelude.{◌≡◌, ◌<◌, length, map}
use Rattle.std.specs.List.{AllByRecursion}
use Rattle.unify_rules.specs.Joined.{values_from}
use Rattle.term_pool.specs.Pool.{Extends, tree}
use Rattle.index_unify.specs.Renaming.{IsRenaming}
use Rattle.index_unify.specs.State.{solutions_of}
use Rattle.index_unify.proofs.branch.values.Given as goal

abbrev pub invariant-loop-var : goal.invariant-loop-var
invariant-loop-var l = record {
  extends : Extends l.fn.pool l.pool;
  renaming : IsRenaming l.pool l.keep l.renaming.terms.items;
  same : l.renaming.keep.now ≡ l.keep;
  within : AllByRecursion (λ i. i < length l.pool.trees) l.all.items;
  is : map (tree l.pool) l.all.items ≡ values_from (solutions_of l.fn.pool l.solutions) l.keep 0 l.var;
}
