use Rattle.std.proofs.Common.{◌≡◌, ◌-◌, ℕ, List, length, arith, refl, sym, ap, subst, ◌∙◌}
use Rattle.std.specs.Prelude.{slice_get, Option, Some}
use Rattle.std.proofs.lemmas.Option.{slice_get_read}
use Rattle.std.proofs.lemmas.Result.{err_from_is_err_and}
use Rattle.core_rules.specs.Term.{Term}
use Rattle.core_rules.specs.Signature.{Entry, Signature}
use Rattle.core_rules.specs.Mapped.{entry_map}
use Rattle.core_kernel.proofs.Contexts.{variable-at}
use Rattle.core_kernel.specs.Answers.{RefusedBy}
use Rattle.kernel_rules.specs.Outcome.{Gives, Refuses, goes_on}
use Rattle.kernel_rules.specs.Refusals.{AfterTerms}
use Rattle.kernel_rules.specs.TermReading.{ShowsSpine}
use Rattle.kernel_rules.specs.TreeReading.{entry_shown, family_shown}
use Rattle.term_pool.specs.Pool.{tree}
use Rattle.weak_head.specs.Elims.{spine_in}
use Rattle.tree_kernel.specs.Answers.{of_term}
use Rattle.tree_kernel.specs.Jobs.{context_by}
use Rattle.tree_kernel.specs.Reader.{FamilyStands, IsFamilyAt, family_or, fuel_of, depth_of, signature_of, term_of}
use Rattle.tree_kernel.specs.declared.reader.FamilyAt.{FamilyAt}
use Rattle.tree_kernel.proofs.Answering.{terms_first, then_refused}
use Rattle.tree_kernel.proofs.Reading.{ready_kept, signature_kept}
use Rattle.tree_kernel.proofs.reader.Reader.family_at.Goals as goal

pub returns-in_err-form-clause-is : goal.returns-in_err-form-clause-is
returns-in_err-form-clause-is c =
    let x = c.args.self.now in
    let g = signature_of x in
    let F : ℕ → Term = term_of x in
    let es = c.args.context.now in
    let ty : c.entry.inside.ty ≡ c.index-entries-entries.result.ty = ap (λ (z : Entry ℕ). z.ty) c.entry.view_is in
    let R = c.as_slice-entries.result.now in
    let e = c.index-entries-entries.result in
    let same : R ≡ es = c.as_slice-entries.ensures ∙ c.context.view_is in
    let here : slice_get R (length R - 1 - c.args.var) ≡ Some e =
    slice_get_read R (length R) (length R - 1 - c.args.var) e refl (omega (arith, ap length same, c.requires.var)) c.index-entries-entries.is in
    let there : slice_get es (length es - 1 - c.args.var) ≡ Some e =
    subst (λ (xs : List (Entry ℕ)). slice_get xs (length xs - 1 - c.args.var) ≡ Some e) same here in
    let at : slice_get (context_by F es) c.args.var ≡ Some (entry_map F e) = variable-at x.pool.now es c.args.var e c.requires.var there in
    let w = err_from_is_err_and c.from_residual.result c.from_residual.ensures.1 in
    rw (w.1, w.2) (then_refused c.spine.new.self.pool.now (λ q. q ≡ entry_shown (slice_get (context_by F es) c.args.var))
    (λ e. AfterTerms (ShowsSpine g (fuel_of x) (depth_of x) e.ty) (λ p q. q ≡ family_shown g p.0 p.1)) (entry_map F e) (ap entry_shown (sym at))
    (of_term c.in_err-form.field-0.0) (terms_first c.spine.new.self.pool.now (ShowsSpine g (fuel_of x) (depth_of x) (F e.ty))
    (λ p q. q ≡ family_shown g p.0 p.1) c.in_err-form.field-0.0
    (subst (λ (i : ℕ). RefusedBy c.spine.new.self.pool.now (λ r. ShowsSpine g (fuel_of x) (depth_of x) (F i) (Refuses r)) c.in_err-form.field-0.0) ty
    c.in_err-form.ensures.is)))

pub family_of-requires-clause-stands : goal.family_of-requires-clause-stands
family_of-requires-clause-stands c = (ready_kept c.requires.ready c.in_ok-form.ensures.grows).signature

pub returns-in-Some-clause-is : goal.returns-in-Some-clause-is
returns-in-Some-clause-is c =
    let x = c.args.self.now in
    let g = signature_of x in
    let F : ℕ → Term = term_of x in
    let es = c.args.context.now in
    let ty : c.entry.inside.ty ≡ c.index-entries-entries.result.ty = ap (λ (z : Entry ℕ). z.ty) c.entry.view_is in
    let R = c.as_slice-entries.result.now in
    let e = c.index-entries-entries.result in
    let same : R ≡ es = c.as_slice-entries.ensures ∙ c.context.view_is in
    let here : slice_get R (length R - 1 - c.args.var) ≡ Some e =
    slice_get_read R (length R) (length R - 1 - c.args.var) e refl (omega (arith, ap length same, c.requires.var)) c.index-entries-entries.is in
    let there : slice_get es (length es - 1 - c.args.var) ≡ Some e =
    subst (λ (xs : List (Entry ℕ)). slice_get xs (length xs - 1 - c.args.var) ≡ Some e) same here in
    let at : slice_get (context_by F es) c.args.var ≡ Some (entry_map F e) = variable-at x.pool.now es c.args.var e c.requires.var there in
    let y = c.spine.new.self in
    let q = y.pool.now in
    let f = tree q in
    let t = c.in_ok-form.form in
    let s = subst (λ (o : Option FamilyAt). FamilyStands q y.signature.now o) c.in-Some.is c.in_ok-family.ensures.stands in
    let k = subst (λ (o : Option FamilyAt). family_or f o ≡ family_shown (signature_of y) (f t.head) (spine_in f t.spine.items)) c.in-Some.is
    c.in_ok-family.ensures.is in (
      subst (λ g. IsFamilyAt q g c.in-Some.family) c.in_ok-form.ensures.grows.signature s,
      goes_on (entry_map F e) (ap entry_shown (sym at))
          (goes_on (f t.head, spine_in f t.spine.items)
          (subst (λ (i : ℕ). ShowsSpine g (fuel_of x) (depth_of x) (F i) (Gives (f t.head, spine_in f t.spine.items))) ty c.in_ok-form.ensures.is.1)
          (k ∙ ap (λ (h : Signature Term). family_shown h (f t.head) (spine_in f t.spine.items)) (signature_kept c.requires.ready c.in_ok-form.ensures.grows))),
    )

pub returns-clause-is : goal.returns-clause-is
returns-clause-is c =
    let x = c.args.self.now in
    let g = signature_of x in
    let F : ℕ → Term = term_of x in
    let es = c.args.context.now in
    let ty : c.entry.inside.ty ≡ c.index-entries-entries.result.ty = ap (λ (z : Entry ℕ). z.ty) c.entry.view_is in
    let R = c.as_slice-entries.result.now in
    let e = c.index-entries-entries.result in
    let same : R ≡ es = c.as_slice-entries.ensures ∙ c.context.view_is in
    let here : slice_get R (length R - 1 - c.args.var) ≡ Some e =
    slice_get_read R (length R) (length R - 1 - c.args.var) e refl (omega (arith, ap length same, c.requires.var)) c.index-entries-entries.is in
    let there : slice_get es (length es - 1 - c.args.var) ≡ Some e =
    subst (λ (xs : List (Entry ℕ)). slice_get xs (length xs - 1 - c.args.var) ≡ Some e) same here in
    let at : slice_get (context_by F es) c.args.var ≡ Some (entry_map F e) = variable-at x.pool.now es c.args.var e c.requires.var there in
    let y = c.spine.new.self in
    let q = y.pool.now in
    let f = tree q in
    let t = c.in_ok-form.form in
    let k = subst (λ (o : Option FamilyAt). family_or f o ≡ family_shown (signature_of y) (f t.head) (spine_in f t.spine.items)) c.in-None.is
    c.in_ok-family.ensures.is in
    goes_on (entry_map F e) (ap entry_shown (sym at))
    (goes_on (f t.head, spine_in f t.spine.items)
    (subst (λ (i : ℕ). ShowsSpine g (fuel_of x) (depth_of x) (F i) (Gives (f t.head, spine_in f t.spine.items))) ty c.in_ok-form.ensures.is.1)
    (k ∙ ap (λ (h : Signature Term). family_shown h (f t.head) (spine_in f t.spine.items)) (signature_kept c.requires.ready c.in_ok-form.ensures.grows)))
