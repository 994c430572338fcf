use Rattle.std.proofs.Common.{ℕ, [], length, Option, sym, ap, subst, subst₂, arith}
use Rattle.core_rules.specs.Heads.{Heads}
use Rattle.term_pool.specs.Pool.{tree}
use Rattle.core_terms.specs.Signature.{signature_in}
use Rattle.core_terms.specs.Solutions.{solved_in}
use Rattle.term_pool.specs.Growth.{Extends-refl, Extends-trans}
use Rattle.core_terms.proofs.SignatureGrowth.{Stands-extends}
use Rattle.weak_head.specs.Elims.{AllBelow, spine_in}
use Rattle.weak_head.specs.Meanings.{Leads, Means, Whole}
use Rattle.weak_head.specs.Pending.{AtTerm, FramesBare, RunBare}
use Rattle.weak_head.specs.States.{FramesBelow, RunBelow, answer_in, due_in, state_in, frames_in, run_in}
use Rattle.weak_head.proofs.Leads.{leads_same}
use Rattle.weak_head.proofs.Stays.{spine_more, spine_stays, frames_more, frames_stay}
use Rattle.weak_head.proofs.Turning.{acyclic_at, settled_at, answered, ran_out, stepped}
use Rattle.weak_head.proofs.bounded.reduce.Goals as goal

pub steps-init : goal.steps-init
steps-init g c =
    let p = c.args.pool.now in
    let G = signature_in p c.args.sig.now in
    let s = solved_in p (g.S.Solutions.solution c.args.sol.now) in
    let t = tree p c.args.t in
    record {
      extends = Extends-refl p;
      state = (c.requires.t, subst (AllBelow (length p.trees)) (sym c.new-spine.ensures.items) tt);
      frames = subst (FramesBelow (length p.trees)) (sym c.new-frames.ensures.items) tt;
      bare = tt;
      frames_bare = subst (λ l. FramesBare (frames_in (tree p) l)) (sym c.new-frames.ensures.items) tt;
      used = omega arith;
      leads = subst₂ (λ l es. Leads (Heads G s t []) 0 (Whole G s (frames_in (tree p) l) (Means G s (AtTerm t (spine_in (tree p) es))))) (sym c.new-frames.ensures.items) (sym c.new-spine.ensures.items) leads_same;
    }

pub settle-requires-clause-stands : goal.settle-requires-clause-stands
settle-requires-clause-stands g c = Stands-extends c.args.pool.now c.steps.pool c.args.sig.now c.steps.invariant.extends c.requires.stands

pub settle-requires-clause-acyclic : goal.settle-requires-clause-acyclic
settle-requires-clause-acyclic g c = acyclic_at c.steps.invariant.extends c.args.sig.now c.requires.stands (g.S.Solutions.solution c.args.sol.now) c.requires.solutions c.requires.acyclic

pub returns-in-Answer-clause-answer : goal.returns-in-Answer-clause-answer
returns-in-Answer-clause-answer g c =
    let p = c.args.pool.now in
    let q = c.steps.pool in
    let r = c.settle.new.pool in
    let i = c.steps.invariant in
    let f : ℕ → Option ℕ = g.S.Solutions.solution c.args.sol.now in
    let x = state_in (tree q) c.steps.state in
    let fs = frames_in (tree q) c.steps.frames.items in
    let run = run_in (tree r) c.in_ok-settle.field-0 in
    let k = settled_at i.extends c.args.sig.now c.requires.stands f c.requires.solutions x fs run c.in_ok-settle.ensures.leads in (
      subst (RunBelow (length r.trees)) c.in-Answer.is c.in_ok-settle.ensures.below,
      answered (signature_in p c.args.sig.now) (solved_in p f) (tree p c.args.t) c.steps.used x fs run i.leads k c.args.fuel (answer_in (tree r) c.in-Answer.meta c.in-Answer.term) (ap (run_in (tree r)) c.in-Answer.is) i.used,
    )

pub returns-then-used-fuel-clause-answer : goal.returns-then-used-fuel-clause-answer
returns-then-used-fuel-clause-answer g c =
    let p = c.args.pool.now in
    let q = c.steps.pool in
    let r = c.settle.new.pool in
    let i = c.steps.invariant in
    let f : ℕ → Option ℕ = g.S.Solutions.solution c.args.sol.now in
    let x = state_in (tree q) c.steps.state in
    let fs = frames_in (tree q) c.steps.frames.items in
    let run = run_in (tree r) c.in_ok-settle.field-0 in
    let k = settled_at i.extends c.args.sig.now c.requires.stands f c.requires.solutions x fs run c.in_ok-settle.ensures.leads in
    ran_out (signature_in p c.args.sig.now) (solved_in p f) (tree p c.args.t) c.steps.used x fs run i.leads k c.args.fuel (due_in (tree r) c.in-Due.due) (spine_in (tree r) c.in-Due.spine.items) (frames_in (tree r) c.in-Due.waiting.items) (ap (run_in (tree r)) c.in-Due.is) (omega (arith, c.if-used-fuel.true))

pub steps-preserved : goal.steps-preserved
steps-preserved g c =
    let p = c.args.pool.now in
    let q = c.steps.pool in
    let r = c.settle.new.pool in
    let z = c.taken.new.pool in
    let i = c.steps.invariant in
    let f : ℕ → Option ℕ = g.S.Solutions.solution c.args.sol.now in
    let x = state_in (tree q) c.steps.state in
    let fs = frames_in (tree q) c.steps.frames.items in
    let run = run_in (tree r) c.in_ok-settle.field-0 in
    let k = settled_at i.extends c.args.sig.now c.requires.stands f c.requires.solutions x fs run c.in_ok-settle.ensures.leads in
    let h = subst (RunBelow (length r.trees)) c.in-Due.is c.in_ok-settle.ensures.below in
    let b = subst (λ u. RunBare (run_in (tree r) u)) c.in-Due.is c.in_ok-settle.ensures.bare in
    let e = c.in_ok-head-in-Due.ensures.extends in
    record {
      extends = Extends-trans (Extends-trans i.extends c.in_ok-settle.ensures.extends) e;
      state = (c.in_ok-head-in-Due.ensures.is.within, spine_more e c.in-Due.spine.items h.1);
      frames = frames_more e c.in-Due.waiting.items h.2;
      bare = tt;
      frames_bare = subst FramesBare (sym (frames_stay e c.in-Due.waiting.items h.2)) b;
      used = omega (arith, i.used, c.if-used-fuel.false);
      leads = stepped (signature_in p c.args.sig.now) (solved_in p f) (tree p c.args.t) c.steps.used x fs run i.leads k
          (due_in (tree r) c.in-Due.due) (tree z c.in_ok-head-in-Due.head) (spine_in (tree r) c.in-Due.spine.items) (spine_in (tree z) c.in-Due.spine.items) (frames_in (tree r) c.in-Due.waiting.items) (frames_in (tree z) c.in-Due.waiting.items)
          (ap (run_in (tree r)) c.in-Due.is) c.in_ok-head-in-Due.ensures.is.is (spine_stays e c.in-Due.spine.items h.1) (frames_stay e c.in-Due.waiting.items h.2);
    }
