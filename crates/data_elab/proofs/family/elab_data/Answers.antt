use Rattle.std.proofs.Common.{◌≡◌, ◌++◌, ◌∷◌, [], ℕ, List, length, map, ap, sym, subst, ◌∙◌}
use Rattle.std.proofs.lemmas.Result.{err_from_is_err_and}
use Rattle.core_rules.specs.Term.{Term}
use Rattle.core_rules.specs.Signature.{ConDecl, FamDecl, Family, Signature, fams}
use Rattle.core_rules.specs.Mapped.{con_map, fam_map}
use Rattle.core_terms.specs.Signature.{signature_in}
use Rattle.kernel_rules.specs.Outcome.{Gives, Outcome, Refuses}
use Rattle.resolved_tree.specs.declared.resolved.Resolved.{Resolved}
use Rattle.resolved_tree.specs.declared.resolved.ResolvedSignature.{ResolvedSignature}
use Rattle.term_pool.specs.Pool.{tree}
use Rattle.data_rules.specs.Families.{IsFamily, WrittenFamilyOf}
use Rattle.data_rules.specs.Refusals.{Refusal}
use Rattle.data_elab.specs.Family.{data_of}
use Rattle.data_elab.specs.Heading.{heading_in}
use Rattle.data_elab.proofs.Reading.{refused-weaker}
use Rattle.data_elab.proofs.Followed.{Lines, core-family, data-gives, data-in, data-refused, data-within, family-is, heading-not_read, known-in, known-stands, next-number}
use Rattle.data_elab.proofs.family.elab_data.Goals as goal

pub returns-in_err-heading-clause-answer : goal.returns-in_err-heading-clause-answer
returns-in_err-heading-clause-answer c =
    let r = err_from_is_err_and c.from_residual.result c.from_residual.ensures.1 in
    let is : IsFamily c.args.decl.now = subst (λ (d : Resolved). IsFamily d) (sym c.in-Data.is) tt in
    rw (r.1, r.2) (heading-not_read (signature_in c.args.pool.now c.args.sig.now) c.args.limits.fuel c.args.limits.depth c.args.decl.now is c.heading_of.new.pool c.in_err-heading.field-0.0 c.in_err-heading.ensures.is)

pub cons_of-cons-requires-clause-stands : goal.cons_of-cons-requires-clause-stands
cons_of-cons-requires-clause-stands c =
    let i = c.in_ok-heading.ensures in
    known-stands c.args.pool.now c.heading_of.new.pool i.extends c.args.sig.now c.add.new.self _ c.in_ok-heading.heading c.in_ok-add.ensures.ok c.in_ok-known.ensures c.requires.stands i.is.0

pub returns-in_err-cons-clause-answer : goal.returns-in_err-cons-clause-answer
returns-in_err-cons-clause-answer c =
    let p = c.args.pool.now in
    let q = c.heading_of.new.pool in
    let P = c.cons_of-cons.new.pool in
    let g = c.args.sig.now in
    let G = signature_in p g in
    let h = c.in_ok-heading.heading in
    let i = c.in_ok-heading.ensures in
    let n = c.new-fam.result in
    let f : FamDecl Term = heading_in q h in
    let ss = c.in-Data.lines in
    let known = known-in p q i.extends g c.add.new.self _ h c.in_ok-add.ensures.ok c.in_ok-known.ensures c.requires.stands in
    let next : n ≡ length (fams G) = next-number p g n c.fams.result c.new-fam.ensures c.fams.ensures in
    let lines : (o : Outcome Refusal (List (ConDecl Term))) → Lines G c.args.limits.fuel c.args.limits.depth c.args.decl.now f (signature_in q c.add.new.self) n c.as_slice.result.now o → Lines G c.args.limits.fuel c.args.limits.depth c.args.decl.now f (G ++ Family f ∷ []) (length (fams G)) ss o =
    λ o k. subst (λ (ls : List ResolvedSignature). Lines G c.args.limits.fuel c.args.limits.depth c.args.decl.now f (G ++ Family f ∷ []) (length (fams G)) ls o) c.as_slice.ensures
    (subst (λ (m : ℕ). Lines G c.args.limits.fuel c.args.limits.depth c.args.decl.now f (G ++ Family f ∷ []) m c.as_slice.result.now o) next
    (subst (λ (s : Signature Term). Lines G c.args.limits.fuel c.args.limits.depth c.args.decl.now f s n c.as_slice.result.now o) known k)) in
    let W = Lines G c.args.limits.fuel c.args.limits.depth c.args.decl.now f (signature_in q c.add.new.self) n c.as_slice.result.now in
    let r = err_from_is_err_and c.from_residual-in_err-cons.result c.from_residual-in_err-cons.ensures.1 in
    rw (r.1, r.2)
    (refused-weaker P (λ d. W (Refuses d)) (λ d. WrittenFamilyOf G c.args.limits.fuel c.args.limits.depth c.args.decl.now (Refuses d))
    (λ d k. data-refused G c.args.limits.fuel c.args.limits.depth c.args.decl.now f _ _ _ _ ss c.in-Data.is i.is.1 d (lines (Refuses d) k)) c.in_err-cons.field-0.0 c.in_err-cons.ensures.is)

pub returns-clause-answer : goal.returns-clause-answer
returns-clause-answer c =
    let p = c.args.pool.now in
    let q = c.heading_of.new.pool in
    let P = c.cons_of-cons.new.pool in
    let g = c.args.sig.now in
    let G = signature_in p g in
    let h = c.in_ok-heading.heading in
    let i = c.in_ok-heading.ensures in
    let n = c.new-fam.result in
    let f : FamDecl Term = heading_in q h in
    let ss = c.in-Data.lines in
    let known = known-in p q i.extends g c.add.new.self _ h c.in_ok-add.ensures.ok c.in_ok-known.ensures c.requires.stands in
    let next : n ≡ length (fams G) = next-number p g n c.fams.result c.new-fam.ensures c.fams.ensures in
    let lines : (o : Outcome Refusal (List (ConDecl Term))) → Lines G c.args.limits.fuel c.args.limits.depth c.args.decl.now f (signature_in q c.add.new.self) n c.as_slice.result.now o → Lines G c.args.limits.fuel c.args.limits.depth c.args.decl.now f (G ++ Family f ∷ []) (length (fams G)) ss o =
    λ o k. subst (λ (ls : List ResolvedSignature). Lines G c.args.limits.fuel c.args.limits.depth c.args.decl.now f (G ++ Family f ∷ []) (length (fams G)) ls o) c.as_slice.ensures
    (subst (λ (m : ℕ). Lines G c.args.limits.fuel c.args.limits.depth c.args.decl.now f (G ++ Family f ∷ []) m c.as_slice.result.now o) next
    (subst (λ (s : Signature Term). Lines G c.args.limits.fuel c.args.limits.depth c.args.decl.now f s n c.as_slice.result.now o) known k)) in
    let j = c.in_ok-cons.ensures in
    let ks = c.in_ok-cons.field-0.items in
    let d = c.data_decl.result in
    let same = ap (fam_map (tree P)) (family-is d (data_of h ks) c.data_decl.ensures) ∙ data-in q P h ks j.extends i.is.0 in (
      core-family P d (data_of h ks) c.data_decl.ensures (data-within q P h ks j.extends i.is.0 j.is.0),
      subst (λ (e : FamDecl Term). WrittenFamilyOf G c.args.limits.fuel c.args.limits.depth c.args.decl.now (Gives e)) (sym same)
          (data-gives G c.args.limits.fuel c.args.limits.depth c.args.decl.now f _ _ _ _ ss c.in-Data.is i.is.1 (map (con_map (tree P)) ks) (lines (Gives (map (con_map (tree P)) ks)) j.is.1)),
    )
