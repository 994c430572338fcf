use Rattle.std.proofs.Common.{◌≡◌, [], ◌∷◌, length, sym, ap, ap₂, subst, refl, ◌∙◌, arith}
use Rattle.std.proofs.lemmas.List.{nil_from_length}
use Rattle.term_pool.specs.Pool.{tree}
use Rattle.core_terms.specs.Signature.{signature_in}
use Rattle.core_terms.specs.Solutions.{solved_in}
use Rattle.core_terms.proofs.SignatureGrowth.{Stands-extends, signature_in-extends}
use Rattle.el_base.proofs.Throughout.{all-push, all-last, all-front}
use Rattle.weak_head.specs.Elims.{spine_in, AllBelow}
use Rattle.weak_head.specs.Pending.{AtTerm, AtAnswer, AtStep, IsTurn, On, Ended, Due, move}
use Rattle.weak_head.specs.States.{StateBelow, TurnedBelow, FrameBelow, FramesBelow, answer_in, due_in, call_in, state_in, turned_in, frame_in, frames_in}
use Rattle.weak_head.proofs.Stays.{spine_more, spine_stays, frames_more, frames_stay, frames_push}
use Rattle.weak_head.proofs.settle.turn.Goals as goal

pub at_term-requires-clause-stands : goal.at_term-requires-clause-stands
at_term-requires-clause-stands g c = Stands-extends c.args.pool.now c.resolve.new.pool c.args.sig.now c.in_ok-head-in-Term.ensures.extends c.requires.stands

pub at_term-requires-clause-term : goal.at_term-requires-clause-term
at_term-requires-clause-term g c =
    let h = subst (StateBelow (length c.args.pool.now.trees)) c.in-Term.is c.requires.state in
    (c.in_ok-head-in-Term.ensures.within, spine_more c.in_ok-head-in-Term.ensures.extends c.in-Term.term.spine.items h.1)

pub returns-in-Term-clause-below : goal.returns-in-Term-clause-below
returns-in-Term-clause-below g c = (c.in_ok-next-in-Term.ensures.below, frames_more c.in_ok-head-in-Term.ensures.extends c.args.frames.items c.requires.frames)

pub returns-in-Term-clause-is : goal.returns-in-Term-clause-is
returns-in-Term-clause-is g c =
    let p = c.args.pool.now in
    let q = c.resolve.new.pool in
    let sig = c.args.sig.now in
    let s = solved_in p (g.S.Solutions.solution c.args.sol.now) in
    let e = c.in_ok-head-in-Term.ensures.extends in
    let h = subst (StateBelow (length p.trees)) c.in-Term.is c.requires.state in
    let xs = c.in-Term.term.spine.items in
    let u = tree q c.in_ok-head-in-Term.head in
    let e1 = signature_in-extends p q sig e c.requires.stands in
    let e2 = spine_stays e xs h.1 in
    let e3 = frames_stay e c.args.frames.items c.requires.frames in
    let moved : _ = λ i. move (e1 i) s (AtTerm u (e2 i)) (e3 i) in
    subst (λ x. IsTurn (signature_in p sig) s (state_in (tree p) x) (frames_in (tree p) c.args.frames.items) (On (state_in (tree q) c.in_ok-next-in-Term.next) (frames_in (tree q) c.args.frames.items))) (sym c.in-Term.is)
    (record {
      looked = AtTerm u (spine_in (tree p) xs);
      looks = (u, c.in_ok-head-in-Term.ensures.is, refl);
      is = c.in_ok-next-in-Term.ensures.is s (frames_in (tree q) c.args.frames.items) c.in_ok-head-in-Term.ensures.is.rests ∙ moved;
    })

pub returns-in-On-clause-below : goal.returns-in-On-clause-below
returns-in-On-clause-below g c =
    (subst (TurnedBelow (length c.at_tree.new.pool.trees)) c.in-On.is c.in_ok-next-in-Node.ensures.below, frames_more c.in_ok-next-in-Node.ensures.extends c.args.frames.items c.requires.frames)

pub returns-in-On-clause-is : goal.returns-in-On-clause-is
returns-in-On-clause-is g c =
    let p = c.args.pool.now in
    let q = c.at_tree.new.pool in
    let G = signature_in p c.args.sig.now in
    let s = solved_in p (g.S.Solutions.solution c.args.sol.now) in
    let fs = frames_in (tree p) c.args.frames.items in
    let here = call_in (tree p) c.in-Node.call c.in-Node.tree.now in
    let next = state_in (tree q) c.in-On.next in
    let moved = subst (λ t. turned_in (tree q) fs t ≡ move G s here fs) c.in-On.is (c.in_ok-next-in-Node.ensures.is s fs) in
    subst (λ x. IsTurn G s (state_in (tree p) x) fs (On next (frames_in (tree q) c.args.frames.items))) (sym c.in-Node.is)
    (record { looked = here; looks = refl; is = ap (On next) (frames_stay c.in_ok-next-in-Node.ensures.extends c.args.frames.items c.requires.frames) ∙ moved })

pub returns-in-Node-clause-below : goal.returns-in-Node-clause-below
returns-in-Node-clause-below g c =
    let n = length c.at_tree.new.pool.trees in
    let h = subst (TurnedBelow n) c.in-Asks.is c.in_ok-next-in-Node.ensures.below in (
      (h.1, subst (AllBelow n) (sym c.new-spine.ensures.items) tt),
      subst (FramesBelow n) (sym c.in_ok-push-in-Asks.ensures.items) (all-push (FrameBelow n) c.args.frames.items c.in-Asks.frame (frames_more c.in_ok-next-in-Node.ensures.extends c.args.frames.items c.requires.frames) h.0),
    )

pub returns-in-Node-clause-is : goal.returns-in-Node-clause-is
returns-in-Node-clause-is g c =
    let p = c.args.pool.now in
    let q = c.at_tree.new.pool in
    let G = signature_in p c.args.sig.now in
    let s = solved_in p (g.S.Solutions.solution c.args.sol.now) in
    let fs = frames_in (tree p) c.args.frames.items in
    let here = call_in (tree p) c.in-Node.call c.in-Node.tree.now in
    let u = tree q c.in-Asks.head in
    let moved = subst (λ t. turned_in (tree q) fs t ≡ move G s here fs) c.in-Asks.is (c.in_ok-next-in-Node.ensures.is s fs) in
    let e1 = ap (spine_in (tree q)) c.new-spine.ensures.items in
    let e2 = ap (frames_in (tree q)) c.in_ok-push-in-Asks.ensures.items ∙ frames_push (tree q) c.args.frames.items c.in-Asks.frame ∙ ap (λ l. frame_in (tree q) c.in-Asks.frame ∷ l) (frames_stay c.in_ok-next-in-Node.ensures.extends c.args.frames.items c.requires.frames) in
    subst (λ x. IsTurn G s (state_in (tree p) x) fs (On (AtTerm u (spine_in (tree q) c.new-spine.result.items)) (frames_in (tree q) c.push.new.self.items))) (sym c.in-Node.is)
    (record { looked = here; looks = refl; is = ap₂ (λ es l. On (AtTerm u es) l) e1 e2 ∙ moved })

pub returns-in-None-clause-is : goal.returns-in-None-clause-is
returns-in-None-clause-is g c =
    let p = c.args.pool.now in
    let G = signature_in p c.args.sig.now in
    let s = solved_in p (g.S.Solutions.solution c.args.sol.now) in
    let fs = frames_in (tree p) c.args.frames.items in
    let a = answer_in (tree p) c.in-Answer.meta c.in-Answer.term in
    let nil : c.args.frames.items ≡ [] = nil_from_length c.args.frames.items (omega (arith, c.in-None.ensures.cases.0, c.args.frames.ok.0)) in
    subst (λ x. IsTurn G s (state_in (tree p) x) fs (Ended a)) (sym c.in-Answer.is)
    (record { looked = AtAnswer a; looks = refl; is = ap (λ l. move G s (AtAnswer a) (frames_in (tree p) l)) (sym nil) })

pub at_answer-requires-clause-frame : goal.at_answer-requires-clause-frame
at_answer-requires-clause-frame g c =
    let n = length c.args.pool.now.trees in
    all-last (FrameBelow n) c.pop.new.self.items c.in-Some.frame (subst (FramesBelow n) c.in-Some.ensures.items c.requires.frames)

pub returns-in-Answer-clause-below : goal.returns-in-Answer-clause-below
returns-in-Answer-clause-below g c =
    let n = length c.args.pool.now.trees in
    (c.in_ok-next-in-Some.ensures.below, frames_more c.in_ok-next-in-Some.ensures.extends c.pop.new.self.items (all-front (FrameBelow n) c.pop.new.self.items c.in-Some.frame (subst (FramesBelow n) c.in-Some.ensures.items c.requires.frames)))

pub returns-in-Answer-clause-is : goal.returns-in-Answer-clause-is
returns-in-Answer-clause-is g c =
    let p = c.args.pool.now in
    let q = c.at_answer.new.pool in
    let n = length p.trees in
    let G = signature_in p c.args.sig.now in
    let s = solved_in p (g.S.Solutions.solution c.args.sol.now) in
    let fs = frames_in (tree p) c.args.frames.items in
    let left = c.pop.new.self.items in
    let a = answer_in (tree p) c.in-Answer.meta c.in-Answer.term in
    let next = state_in (tree q) c.in_ok-next-in-Some.next in
    let pushed = ap (frames_in (tree p)) c.in-Some.ensures.items ∙ frames_push (tree p) left c.in-Some.frame in
    let stay = frames_stay c.in_ok-next-in-Some.ensures.extends left (all-front (FrameBelow n) left c.in-Some.frame (subst (FramesBelow n) c.in-Some.ensures.items c.requires.frames)) in
    subst (λ x. IsTurn G s (state_in (tree p) x) fs (On next (frames_in (tree q) left))) (sym c.in-Answer.is)
    (record { looked = AtAnswer a; looks = refl; is = ap (On next) stay ∙ c.in_ok-next-in-Some.ensures.is s (frames_in (tree p) left) ∙ ap (move G s (AtAnswer a)) (sym pushed) })

pub returns-clause-is : goal.returns-clause-is
returns-clause-is g c =
    let p = c.args.pool.now in
    let G = signature_in p c.args.sig.now in
    let s = solved_in p (g.S.Solutions.solution c.args.sol.now) in
    let fs = frames_in (tree p) c.args.frames.items in
    let u = due_in (tree p) c.in-Step.due in
    let es = spine_in (tree p) c.in-Step.spine.items in
    subst (λ x. IsTurn G s (state_in (tree p) x) fs (Due u es fs)) (sym c.in-Step.is) (record { looked = AtStep u es; looks = refl; is = refl })
