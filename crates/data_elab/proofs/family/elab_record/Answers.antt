use Rattle.std.proofs.Common.{◌≡◌, ◌++◌, ◌∷◌, [], ℕ, List, length, ap, sym, subst, ◌∙◌}
use Rattle.std.proofs.lemmas.Result.{err_from_is_err_and}
use Rattle.core_rules.specs.Term.{Term}
use Rattle.core_rules.specs.Signature.{FamDecl, Family, Signature, Telescope, fams}
use Rattle.core_rules.specs.Mapped.{fam_map, telescope_map}
use Rattle.core_terms.specs.Signature.{decl_of, signature_in}
use Rattle.kernel_rules.specs.Outcome.{Gives, Outcome, Refuses}
use Rattle.resolved_tree.specs.declared.resolved.Resolved.{Resolved}
use Rattle.resolved_tree.specs.declared.resolved.ResolvedItem.{ResolvedItem}
use Rattle.term_pool.specs.Pool.{tree}
use Rattle.data_rules.specs.Families.{IsFamily, WrittenFamilyOf, con_name, has_eta, is_coinductive, lines_of}
use Rattle.data_rules.specs.Refusals.{Refusal}
use Rattle.data_elab.specs.Family.{record_of}
use Rattle.data_elab.specs.Heading.{heading_in}
use Rattle.data_elab.proofs.Reading.{refused-weaker}
use Rattle.data_elab.proofs.Followed.{Fields, core-family, family-is, heading-not_read, known-in, known-stands, next-number, record-gives, record-in, record-refused, record-within}
use Rattle.data_elab.proofs.family.elab_record.Goals as goal

pub returns-in_err-heading-clause-answer : goal.returns-in_err-heading-clause-answer
returns-in_err-heading-clause-answer c =
    let r = err_from_is_err_and c.from_residual.result c.from_residual.ensures.1 in
    let is : IsFamily c.args.decl.now = subst (λ (d : Resolved). IsFamily d) (sym c.in-Record.is) tt in
    rw (r.1, r.2) (heading-not_read (signature_in c.args.pool.now c.args.sig.now) c.args.limits.fuel c.args.limits.depth c.args.decl.now is c.heading_of.new.pool c.in_err-heading.field-0.0 c.in_err-heading.ensures.is)

pub fields_of-fields-requires-clause-stands : goal.fields_of-fields-requires-clause-stands
fields_of-fields-requires-clause-stands c =
    let i = c.in_ok-heading.ensures in
    known-stands c.args.pool.now c.heading_of.new.pool i.extends c.args.sig.now c.add.new.self _ c.in_ok-heading.heading c.in_ok-add.ensures.ok c.in_ok-known.ensures c.requires.stands i.is.0

pub returns-in_err-fields-clause-answer : goal.returns-in_err-fields-clause-answer
returns-in_err-fields-clause-answer c =
    let p = c.args.pool.now in
    let q = c.heading_of.new.pool in
    let P = c.fields_of-fields.new.pool in
    let g = c.args.sig.now in
    let G = signature_in p g in
    let h = c.in_ok-heading.heading in
    let i = c.in_ok-heading.ensures in
    let n = c.new-fam.result in
    let f : FamDecl Term = heading_in q h in
    let items = c.in-Record.items in
    let known = known-in p q i.extends g c.add.new.self _ h c.in_ok-add.ensures.ok c.in_ok-known.ensures c.requires.stands in
    let next : n ≡ length (fams G) = next-number p g n c.fams.result c.new-fam.ensures c.fams.ensures in
    let lines : (o : Outcome Refusal (Telescope Term)) → Fields G c.args.limits.fuel c.args.limits.depth c.args.decl.now f (signature_in q c.add.new.self) (lines_of c.as_slice.result.now) o → Fields G c.args.limits.fuel c.args.limits.depth c.args.decl.now f (G ++ Family f ∷ []) (lines_of items) o =
    λ o k. subst (λ (is : List ResolvedItem). Fields G c.args.limits.fuel c.args.limits.depth c.args.decl.now f (G ++ Family f ∷ []) (lines_of is) o) c.as_slice.ensures
    (subst (λ (s : Signature Term). Fields G c.args.limits.fuel c.args.limits.depth c.args.decl.now f s (lines_of c.as_slice.result.now) o) known k) in
    let W = Fields G c.args.limits.fuel c.args.limits.depth c.args.decl.now f (signature_in q c.add.new.self) (lines_of c.as_slice.result.now) in
    let r = err_from_is_err_and c.from_residual-in_err-fields.result c.from_residual-in_err-fields.ensures.1 in
    rw (r.1, r.2)
    (refused-weaker P (λ d. W (Refuses d)) (λ d. WrittenFamilyOf G c.args.limits.fuel c.args.limits.depth c.args.decl.now (Refuses d))
    (λ d k. record-refused G c.args.limits.fuel c.args.limits.depth c.args.decl.now f _ _ _ _ items c.in-Record.is i.is.1 d (lines (Refuses d) k)) c.in_err-fields.field-0.0 c.in_err-fields.ensures.is)

pub returns-clause-answer : goal.returns-clause-answer
returns-clause-answer c =
    let p = c.args.pool.now in
    let q = c.heading_of.new.pool in
    let P = c.fields_of-fields.new.pool in
    let g = c.args.sig.now in
    let G = signature_in p g in
    let h = c.in_ok-heading.heading in
    let i = c.in_ok-heading.ensures in
    let n = c.new-fam.result in
    let f : FamDecl Term = heading_in q h in
    let items = c.in-Record.items in
    let known = known-in p q i.extends g c.add.new.self _ h c.in_ok-add.ensures.ok c.in_ok-known.ensures c.requires.stands in
    let next : n ≡ length (fams G) = next-number p g n c.fams.result c.new-fam.ensures c.fams.ensures in
    let lines : (o : Outcome Refusal (Telescope Term)) → Fields G c.args.limits.fuel c.args.limits.depth c.args.decl.now f (signature_in q c.add.new.self) (lines_of c.as_slice.result.now) o → Fields G c.args.limits.fuel c.args.limits.depth c.args.decl.now f (G ++ Family f ∷ []) (lines_of items) o =
    λ o k. subst (λ (is : List ResolvedItem). Fields G c.args.limits.fuel c.args.limits.depth c.args.decl.now f (G ++ Family f ∷ []) (lines_of is) o) c.as_slice.ensures
    (subst (λ (s : Signature Term). Fields G c.args.limits.fuel c.args.limits.depth c.args.decl.now f s (lines_of c.as_slice.result.now) o) known k) in
    let j = c.in_ok-fields.ensures in
    let fs = c.in_ok-fields.fields.items in
    let d = c.in_ok-made.made in
    let made : (m : ℕ) (is : List ResolvedItem) → FamDecl ℕ = λ m is. record_of h (con_name is) fs (has_eta m (is_coinductive is) (telescope_map (tree P) fs)) (is_coinductive is) in
    let whole : decl_of d ≡ Family (made (length (fams G)) items) = c.in_ok-made.ensures ∙ (ap (λ (is : List ResolvedItem). Family (made n is)) c.as_slice-2.ensures ∙ ap (λ (m : ℕ). Family (made m items)) next) in
    let same = ap (fam_map (tree P)) (family-is d (made (length (fams G)) items) whole) ∙ record-in q P h (length (fams G)) items fs j.extends i.is.0 in (
      core-family P d (made (length (fams G)) items) whole (record-within q P h (con_name items) fs _ _ j.extends i.is.0 j.is.0),
      subst (λ (e : FamDecl Term). WrittenFamilyOf G c.args.limits.fuel c.args.limits.depth c.args.decl.now (Gives e)) (sym same)
          (record-gives G c.args.limits.fuel c.args.limits.depth c.args.decl.now f _ _ _ _ items c.in-Record.is i.is.1 (telescope_map (tree P) fs) (lines (Gives (telescope_map (tree P) fs)) j.is.1)),
    )
