use Rattle.std.proofs.Common.{◌<◌, ℕ, Option, sym, subst}
use Rattle.term_pool.specs.Pool.{tree}
use Rattle.core_terms.specs.Signature.{signature_in}
use Rattle.core_terms.specs.Solutions.{solved_in}
use Rattle.term_pool.specs.Growth.{Extends-trans}
use Rattle.core_terms.proofs.SignatureGrowth.{Stands-extends}
use Rattle.weak_head.specs.Meanings.{Settles}
use Rattle.weak_head.specs.Pending.{RunBare}
use Rattle.weak_head.specs.States.{state_in, frames_in, run_in}
use Rattle.weak_head.proofs.Leads.{leads_on}
use Rattle.weak_head.proofs.Lighter.{run_turns}
use Rattle.weak_head.proofs.Turning.{turn_at, acyclic_at, turn_bare, turn_leads, turn_lighter, whole_solutions, whole_full}
use Rattle.weak_head.proofs.settle.settle.Goals as goal

pub turn-requires-clause-stands : goal.turn-requires-clause-stands
turn-requires-clause-stands g c = Stands-extends c.args.pool.now c.loop-run.pool c.args.sig.now c.loop-run.invariant.extends c.requires.stands

pub turn-requires-clause-acyclic : goal.turn-requires-clause-acyclic
turn-requires-clause-acyclic g c = acyclic_at c.loop-run.invariant.extends c.args.sig.now c.requires.stands (g.S.Solutions.solution c.args.sol.now) c.requires.solutions c.requires.acyclic

pub loop-run-smaller : goal.loop-run-smaller
loop-run-smaller g c =
    let p = c.args.pool.now in
    let q = c.loop-run.pool in
    let G = signature_in p c.args.sig.now in
    let f : ℕ → Option ℕ = g.S.Solutions.solution c.args.sol.now in
    let s = solved_in p f in
    let F = whole_solutions p f in
    let r = run_in (tree c.turn.new.pool) c.in_ok-run-in-On.run' in
    let x = state_in (tree q) c.in-On.next in
    let fs = frames_in (tree q) c.in-On.waiting.items in
    let t = turn_at c.loop-run.invariant.extends c.args.sig.now c.requires.stands f c.requires.solutions c.in_ok-run-in-On.ensures.is in
    subst (λ u. run_turns G F r < run_turns G F (run_in (tree q) u)) (sym c.in-On.is) (turn_lighter G s F (whole_full p f c.requires.solutions c.requires.acyclic) x fs r t)

pub loop-run-preserved : goal.loop-run-preserved
loop-run-preserved g c =
    let p = c.args.pool.now in
    let q = c.loop-run.pool in
    let i = c.loop-run.invariant in
    let G = signature_in p c.args.sig.now in
    let f : ℕ → Option ℕ = g.S.Solutions.solution c.args.sol.now in
    let s = solved_in p f in
    let r = run_in (tree c.turn.new.pool) c.in_ok-run-in-On.run' in
    let x = state_in (tree q) c.in-On.next in
    let fs = frames_in (tree q) c.in-On.waiting.items in
    let t = turn_at i.extends c.args.sig.now c.requires.stands f c.requires.solutions c.in_ok-run-in-On.ensures.is in
    let b = subst (λ u. RunBare (run_in (tree q) u)) c.in-On.is i.bare in
    record {
      extends = Extends-trans i.extends c.in_ok-run-in-On.ensures.extends;
      below = c.in_ok-run-in-On.ensures.below;
      bare = turn_bare G s x fs r t b.0 b.1;
      leads = leads_on 0 0 (subst (λ u. Settles G s (state_in (tree p) c.args.state) (frames_in (tree p) c.args.frames.items) (run_in (tree q) u)) c.in-On.is i.leads) (turn_leads G s x fs r t);
    }
