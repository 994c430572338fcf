use Rattle.std.proofs.Common.{Some, ap, ◌∙◌, subst as transport}
use Rattle.std.specs.Prelude.{IfOk}
use Rattle.std.proofs.lemmas.Result.{IfOk-weaker}
use Rattle.core_rules.specs.Heads.{Within, Form}
use Rattle.term_pool.specs.Pool.{tree}
use Rattle.core_terms.specs.Signature.{signature_in}
use Rattle.core_terms.specs.Solutions.{solved_in}
use Rattle.core_terms.proofs.SignatureGrowth.{Stands-extends, signature_in-extends}
use Rattle.need_rules.specs.Needs.{need_of}
use Rattle.weak_head.specs.declared.answer.Reduced.TheVariants as RV
use Rattle.weak_head.specs.Answers.{IsReduced}
use Rattle.weak_head.specs.Elims.{spine_in}
use Rattle.weak_head.specs.States.{answer_in}
use Rattle.implicit_insert.specs.Answers.{IsAt, next_in}
use Rattle.implicit_insert.proofs.Needs.{at_head, waits}
use Rattle.implicit_insert.proofs.table.need_of_type.Goals as goal

pub need_at-requires-clause-stands : goal.need_at-requires-clause-stands
need_at-requires-clause-stands g c = Stands-extends _ _ _ c.reduce.ensures.extends c.requires.stands

pub returns-in-Found-Some-default-default-clause-answer : goal.returns-in-Found-Some-default-default-clause-answer
returns-in-Found-Some-default-default-clause-answer g c =
    let p = c.args.pool.now in
    let q = c.reduce.new.pool in
    let f = c.in-Found-Some-default-default in
    let h = transport (IsReduced (signature_in p c.args.sig.now) (solved_in p (g.S.Solutions.solution c.args.sol.now)) (tree p c.args.ty) c.args.fuel q) (f.is ∙ ap (λ m. RV.Found m f.term f.used) f.meta-is) c.in_ok-reduce.ensures.answer in
    record { head = Within (answer_in (tree q) (Some f.meta) f.term) f.used; is = h.1; need = ap Some (waits (signature_in p c.args.sig.now) f.meta (tree q f.term.head) (spine_in (tree q) f.term.spine.items) (next_in c.args.next)) }

pub returns-in-Found-None-default-default-clause-answer : goal.returns-in-Found-None-default-default-clause-answer
returns-in-Found-None-default-default-clause-answer g c =
    let p = c.args.pool.now in
    let q = c.reduce.new.pool in
    let f = c.in-Found-None-default-default in
    let h = transport (IsReduced (signature_in p c.args.sig.now) (solved_in p (g.S.Solutions.solution c.args.sol.now)) (tree p c.args.ty) c.args.fuel q) (f.is ∙ ap (λ m. RV.Found m f.term f.used) f.meta-is) c.in_ok-reduce.ensures.answer in
    let w = Form (tree q f.term.head) (spine_in (tree q) f.term.spine.items) in
    let same = signature_in-extends p q c.args.sig.now c.reduce.ensures.extends c.requires.stands in
    let e = transport (λ s. IfOk c.need_at.result (IsAt (need_of s w (next_in c.args.next)) c.need_at.new.pool)) same c.need_at.ensures.is in
    IfOk-weaker c.need_at.result _ _ (at_head c.need_at.new.pool (signature_in p c.args.sig.now) (solved_in p (g.S.Solutions.solution c.args.sol.now)) (tree p c.args.ty) c.args.next c.args.fuel f.used w h.1) e
