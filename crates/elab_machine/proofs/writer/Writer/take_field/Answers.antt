use Rattle.std.proofs.Common.{◌≡◌, map, subst}
use Rattle.core_rules.specs.Term.{Term}
use Rattle.term_pool.specs.Placed.{filled}
use Rattle.written_rules.specs.Rules.{Values}
use Rattle.elab_machine.specs.Spine.{AnswersProjection, one_step, at_field, found_at}
use Rattle.elab_machine.specs.Writer.{Over, Read, over, signature_of, term_of, values_of}
use Rattle.elab_machine.proofs.Kept.{ready_kept, term_kept, over_kept, values_kept}
use Rattle.elab_machine.proofs.Fields.{step_whole}
use Rattle.elab_machine.proofs.writer.Writer.take_field.Goals as goal

pub take_field_of-requires-clause-ready : goal.take_field_of-requires-clause-ready
take_field_of-requires-clause-ready c = ready_kept c.requires.ready c.in_ok-whole.ensures.grows c.in_ok-whole.ensures.keeps

pub returns-clause-is : goal.returns-clause-is
returns-clause-is c =
    let x = c.args.self.now in
    let y = c.put_together.new.self in
    let z = c.take_field_of.new.self in
    let i = c.in_ok-whole.ensures in
    let K : Over → Values → Term → Term → Type 0 = λ o vs t a. AnswersProjection z.pool.now (Read o (one_step o.signature c.args.pos c.args.at vs (found_at t a) (at_field c.args.place c.args.field))) c.take_field_of.result in
    let a : term_of y c.in_ok-whole.whole ≡ filled (map (term_of x) c.args.taken.now) (term_of x c.args.ty) = i.is.is in
    let h1 : K (over x) (values_of y) (term_of y c.args.term) (term_of y c.in_ok-whole.whole) = subst (λ (o : Over). K o (values_of y) (term_of y c.args.term) (term_of y c.in_ok-whole.whole)) (over_kept c.requires.ready i.grows i.keeps) c.take_field_of.ensures.is in
    let h2 : K (over x) (values_of x) (term_of y c.args.term) (term_of y c.in_ok-whole.whole) = subst (λ (vs : Values). K (over x) vs (term_of y c.args.term) (term_of y c.in_ok-whole.whole)) (values_kept c.requires.ready i.grows i.keeps) h1 in
    let h3 : K (over x) (values_of x) (term_of x c.args.term) (term_of y c.in_ok-whole.whole) = subst (λ (t : Term). K (over x) (values_of x) t (term_of y c.in_ok-whole.whole)) (term_kept c.requires.ready i.grows i.keeps c.args.term c.requires.term) h2 in
    step_whole z.pool.now c.args.taken.now (Read (over x) (one_step (signature_of x) c.args.pos c.args.at (values_of x) (found_at (term_of x c.args.term) (filled (map (term_of x) c.args.taken.now) (term_of x c.args.ty))) (at_field c.args.place c.args.field))) c.take_field_of.result (subst (λ (u : Term). K (over x) (values_of x) (term_of x c.args.term) u) a h3)
