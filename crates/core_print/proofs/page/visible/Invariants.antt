use Rattle.std.proofs.Common.{◌≡◌, ◌<◌, length}
use Rattle.term_pool.specs.Pool.{tree}
use Rattle.core_print.specs.Pages.{visible}
use Rattle.core_print.proofs.page.visible.Given as goal

abbrev pub invariant-loop-fun : goal.invariant-loop-fun
invariant-loop-fun l = record {
  within : l.t < length l.pool.trees;
  is : visible (tree l.pool l.t) ≡ visible (tree l.pool l.fn.t);
}

abbrev pub decreases-loop-fun : goal.decreases-loop-fun
decreases-loop-fun l = l.t
