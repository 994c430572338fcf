use Rattle.std.proofs.Common.{◌≡◌, ◌<◌, length, []}
use Rattle.core_rules.specs.Unification.{con_spine}
use Rattle.term_pool.specs.Pool.{tree}
use Rattle.index_unify.specs.Constructors.{AllArguments, arguments_in}
use Rattle.index_unify.proofs.constructors.con_form.Given as goal

abbrev pub invariant-loop-flag : goal.invariant-loop-flag
invariant-loop-flag l = record {
  within : l.head < length l.pool.trees;
  is : con_spine (tree l.pool l.head) (arguments_in (tree l.pool) l.args.items) ≡ con_spine (tree l.pool l.fn.t) [];
  below : AllArguments (λ i. i < length l.pool.trees) l.args.items;
}

abbrev pub decreases-loop-flag : goal.decreases-loop-flag
decreases-loop-flag l = l.head
