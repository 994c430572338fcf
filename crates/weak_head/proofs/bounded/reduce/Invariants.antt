use Rattle.std.proofs.Common.{◌≤◌, ◌-◌, length, []}
use Rattle.core_rules.specs.Heads.{Heads}
use Rattle.term_pool.specs.Pool.{Extends, tree}
use Rattle.core_terms.specs.Signature.{signature_in}
use Rattle.core_terms.specs.Solutions.{solved_in}
use Rattle.weak_head.specs.Meanings.{Leads, Means, Whole}
use Rattle.weak_head.specs.Pending.{NowBare, FramesBare}
use Rattle.weak_head.specs.States.{StateBelow, FramesBelow, frames_in, state_in}
use Rattle.weak_head.proofs.bounded.reduce.Given as goal

abbrev pub invariant-steps : goal.invariant-steps
invariant-steps g l = record {
  extends : Extends l.fn.pool l.pool;
  state : StateBelow (length l.pool.trees) l.state;
  frames : FramesBelow (length l.pool.trees) l.frames.items;
  bare : NowBare (state_in (tree l.pool) l.state);
  frames_bare : FramesBare (frames_in (tree l.pool) l.frames.items);
  used : l.used ≤ l.fuel;
  leads : Leads (Heads (signature_in l.fn.pool l.sig) (solved_in l.fn.pool (g.S.Solutions.solution l.sol)) (tree l.fn.pool l.fn.t) []) l.used
      (Whole (signature_in l.fn.pool l.sig) (solved_in l.fn.pool (g.S.Solutions.solution l.sol)) (frames_in (tree l.pool) l.frames.items)
      (Means (signature_in l.fn.pool l.sig) (solved_in l.fn.pool (g.S.Solutions.solution l.sol)) (state_in (tree l.pool) l.state)));
}

abbrev pub decreases-steps : goal.decreases-steps
decreases-steps g l = l.fuel - l.used
