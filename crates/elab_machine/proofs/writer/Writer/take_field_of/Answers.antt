use Rattle.std.proofs.Common.{◌≡◌, ◌<◌, List, map, ap, sym, subst, ◌∙◌}
use Rattle.core_rules.specs.Term.{Term, Proj}
use Rattle.core_rules.specs.Signature.{Signature}
use Rattle.core_rules.specs.Substitution.{under}
use Rattle.core_rules.specs.Typing.{IsField, field_env}
use Rattle.core_terms.specs.Signature.{field_total}
use Rattle.term_pool.specs.Pool.{StandsFor}
use Rattle.declared_types.proofs.Fields.{field_named}
use Rattle.elab_machine.specs.Writer.{over, signature_of, term_of, values_of}
use Rattle.elab_machine.proofs.Kept.{ready_kept, term_kept, signature_same}
use Rattle.elab_machine.proofs.Fields.{its_record, projection-by}
use Rattle.elab_machine.proofs.writer.Writer.take_field_of.Goals as goal

pub project-requires-clause-ready : goal.project-requires-clause-ready
project-requires-clause-ready c = ready_kept c.requires.ready c.need_for-need.ensures.grows c.need_for-need.ensures.keeps

pub project-requires-clause-params : goal.project-requires-clause-params
project-requires-clause-params c =
    let x = c.args.self.now in
    (its_record (over x) c.args.pos c.args.at c.args.place c.args.field (term_of x c.args.term) (term_of x c.args.ty) (values_of x) c.need_for-need.new.self.pool.now c.need_for-need.result c.in_ok-params.params c.need_for-need.ensures.is (sym c.params_of.ensures ∙ c.in_ok-params.was)).1.below

pub returns-clause-is : goal.returns-clause-is
returns-clause-is c =
    let x = c.args.self.now in
    let y = c.need_for-need.new.self in
    let z = c.project.new.self in
    let f = c.args.field in
    let ids = c.in_ok-params.params in
    let n = c.need_for-need.ensures in
    let w = c.in_ok-project.field-0 in
    let j = c.in_ok-project.ensures.is in
    let k = (its_record (over x) c.args.pos c.args.at c.args.place f (term_of x c.args.term) (term_of x c.args.ty) (values_of x) y.pool.now c.need_for-need.result ids n.is (sym c.params_of.ensures ∙ c.in_ok-params.was)).1 in
    let g = signature_of x in
    let e : signature_of y ≡ g = signature_same c.requires.ready n.grows n.keeps.signature n.keeps.limits in
    let low : f < field_total x.signature.now = subst (λ s. f < field_total s) n.keeps.signature j.field in
    let is : IsField g f = field_named x.pool.now x.signature.now f low in
    let t : term_of y c.args.term ≡ term_of x c.args.term = term_kept c.requires.ready n.grows n.keeps c.args.term c.requires.term in
    let ty = subst (λ (h : Signature Term). (i : IsField h f) → StandsFor z.pool.now w.ty (under (field_env h f i (map (term_of y) ids) (term_of y c.args.term)) i.entry.ty)) e j.ty is in
    let a : term_of z w.term ≡ Proj f (term_of x c.args.term) = j.term.is ∙ ap (Proj f) t in
    let b : term_of z w.ty ≡ under (field_env g f is k.field.params (term_of x c.args.term)) is.entry.ty =
    ty.is ∙ (ap (λ (us : List Term). under (field_env g f is us (term_of y c.args.term)) is.entry.ty) (sym k.params) ∙ ap (λ (u : Term). under (field_env g f is k.field.params u) is.entry.ty) t) in (
      j.term.within,
      j.arg,
      ty.within,
      j.used,
      rw (a, b) (projection-by (over x) c.args.pos c.args.at c.args.place f (term_of x c.args.term) (term_of x c.args.ty) (values_of x) is k.field k.is),
    )
