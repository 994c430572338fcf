use Rattle.std.proofs.Common.{length}
use Rattle.term_pool.specs.Pool.{Extends, tree}
use Rattle.core_terms.specs.Signature.{signature_in}
use Rattle.core_terms.specs.Solutions.{solved_in}
use Rattle.weak_head.specs.Meanings.{Settles}
use Rattle.weak_head.specs.Pending.{RunBare}
use Rattle.weak_head.specs.States.{RunBelow, frames_in, run_in, state_in}
use Rattle.weak_head.proofs.Lighter.{run_turns}
use Rattle.weak_head.proofs.Turning.{whole_solutions}
use Rattle.weak_head.proofs.settle.settle.Given as goal

abbrev pub invariant-loop-run : goal.invariant-loop-run
invariant-loop-run g l = record {
  extends : Extends l.fn.pool l.pool;
  below : RunBelow (length l.pool.trees) l.run;
  bare : RunBare (run_in (tree l.pool) l.run);
  leads : Settles (signature_in l.fn.pool l.sig) (solved_in l.fn.pool (g.S.Solutions.solution l.sol)) (state_in (tree l.fn.pool) l.fn.state) (frames_in (tree l.fn.pool) l.fn.frames.items) (run_in (tree l.pool) l.run);
}

abbrev pub decreases-loop-run : goal.decreases-loop-run
decreases-loop-run g l = run_turns (signature_in l.fn.pool l.sig) (whole_solutions l.fn.pool (g.S.Solutions.solution l.sol)) (run_in (tree l.pool) l.run)
