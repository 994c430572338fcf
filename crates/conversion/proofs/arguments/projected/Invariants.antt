use Rattle.std.proofs.Common.{◌≡◌, ◌+◌, ◌++◌, length, map}
use Rattle.core_rules.specs.Term.{Proj}
use Rattle.term_pool.specs.Pool.{Extends, tree}
use Rattle.weak_head.specs.Elims.{AllBelow, AreArgs, args_of, spine_in}
use Rattle.conversion.specs.Arguments.{flag_of}
use Rattle.conversion.proofs.arguments.projected.Given as goal

abbrev pub invariant-loop-xs : goal.invariant-loop-xs
invariant-loop-xs l = record {
  extends : Extends l.fn.pool l.pool;
  below : AllBelow (length l.pool.trees) l.made.items;
  args : AreArgs (spine_in (tree l.pool) l.made.items);
  terms : map (λ k. Proj k (tree l.fn.pool l.of)) l.left ++ args_of (spine_in (tree l.pool) l.made.items) ≡ map (λ k. Proj k (tree l.fn.pool l.of)) l.fields;
  flags : map flag_of l.made.items ++ map flag_of l.xs ≡ map flag_of l.like;
  lengths : length l.left + length l.like ≡ length l.fields + length l.xs;
}

abbrev pub decreases-loop-xs : goal.decreases-loop-xs
decreases-loop-xs l = length l.xs
