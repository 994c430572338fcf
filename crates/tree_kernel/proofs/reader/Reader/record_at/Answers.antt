use Rattle.std.proofs.Common.{◌≡◌, ap, subst, ◌∙◌}
use Rattle.std.specs.Prelude.{Option}
use Rattle.std.proofs.lemmas.Result.{err_from_is_err_and}
use Rattle.core_rules.specs.Term.{Term}
use Rattle.core_rules.specs.Signature.{Signature}
use Rattle.kernel_rules.specs.Outcome.{goes_on}
use Rattle.kernel_rules.specs.TermReading.{ShowsSpine}
use Rattle.kernel_rules.specs.TreeReading.{record_shown}
use Rattle.term_pool.specs.Pool.{tree}
use Rattle.weak_head.specs.Elims.{spine_in}
use Rattle.tree_kernel.specs.Reader.{FamilyStands, IsFamilyAt, family_or, signature_of, term_of}
use Rattle.tree_kernel.specs.declared.reader.FamilyAt.{FamilyAt}
use Rattle.tree_kernel.proofs.Answering.{terms_first}
use Rattle.tree_kernel.proofs.Reading.{ready_kept, signature_kept}
use Rattle.tree_kernel.proofs.reader.Reader.record_at.Goals as goal

pub returns-in_err-form-clause-is : goal.returns-in_err-form-clause-is
returns-in_err-form-clause-is c =
    let x = c.args.self.now in
    let w = err_from_is_err_and c.from_residual.result c.from_residual.ensures.1 in
    rw (w.1, w.2) (terms_first c.spine.new.self.pool.now (ShowsSpine (signature_of x) x.limits.fuel x.limits.depth (term_of x c.args.ty))
    (λ p q. q ≡ record_shown (signature_of x) p.0 p.1) c.in_err-form.field-0.0 c.in_err-form.ensures.is)

pub record_of-requires-clause-stands : goal.record_of-requires-clause-stands
record_of-requires-clause-stands c = (ready_kept c.requires.ready c.in_ok-form.ensures.grows).signature

pub returns-in-Some-clause-is : goal.returns-in-Some-clause-is
returns-in-Some-clause-is c =
    let x = c.args.self.now in
    let y = c.spine.new.self in
    let q = y.pool.now in
    let f = tree q in
    let t = c.in_ok-form.form in
    let s = subst (λ (o : Option FamilyAt). FamilyStands q y.signature.now o) c.in-Some.is c.in_ok-family.ensures.stands in
    let e = subst (λ (o : Option FamilyAt). family_or f o ≡ record_shown (signature_of y) (f t.head) (spine_in f t.spine.items)) c.in-Some.is
    c.in_ok-family.ensures.is in (
      subst (λ g. IsFamilyAt q g c.in-Some.family) c.in_ok-form.ensures.grows.signature s,
      goes_on (f t.head, spine_in f t.spine.items) c.in_ok-form.ensures.is.1
          (e ∙ ap (λ (k : Signature Term). record_shown k (f t.head) (spine_in f t.spine.items)) (signature_kept c.requires.ready c.in_ok-form.ensures.grows)),
    )

pub returns-clause-is : goal.returns-clause-is
returns-clause-is c =
    let y = c.spine.new.self in
    let q = y.pool.now in
    let f = tree q in
    let t = c.in_ok-form.form in
    let e = subst (λ (o : Option FamilyAt). family_or f o ≡ record_shown (signature_of y) (f t.head) (spine_in f t.spine.items)) c.in-None.is
    c.in_ok-family.ensures.is in
    goes_on (f t.head, spine_in f t.spine.items) c.in_ok-form.ensures.is.1
    (e ∙ ap (λ (k : Signature Term). record_shown k (f t.head) (spine_in f t.spine.items)) (signature_kept c.requires.ready c.in_ok-form.ensures.grows))
