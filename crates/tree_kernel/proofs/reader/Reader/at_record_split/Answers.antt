use Rattle.std.proofs.Common.{◌≡◌, ◌<◌, ◌-◌, ◌∙◌, true, false, length, take, drop, ap, sym, subst, refl}
use Rattle.std.proofs.lemmas.Bool.{eq-eqb, ne_eqb}
use Rattle.std.proofs.lemmas.Result.{err_from_is_err_and}
use Rattle.core_rules.specs.Mapped.{AllEntries}
use Rattle.conversion.proofs.Slices.{none_within, unrolled}
use Rattle.kernel_rules.specs.TreeReading.{ShowsFamily}
use Rattle.core_terms.specs.Signature.{fam_of}
use Rattle.core_terms.specs.declared.signature.CoreDecl.{CoreDecl}
use Rattle.tree_kernel.specs.Jobs.{context_by}
use Rattle.tree_kernel.specs.Nodes.{count}
use Rattle.tree_kernel.specs.Reader.{signature_of, term_of, fuel_of, depth_of}
use Rattle.tree_kernel.proofs.Answering.{first_refused}
use Rattle.tree_kernel.proofs.Splitting.{absurd-in, record-other, record-no_eta, record-no_con, record-goes}
use Rattle.tree_kernel.proofs.reader.Reader.at_record_split.Goals as goal

pub returns-in_err-family-clause-is : goal.returns-in_err-family-clause-is
returns-in_err-family-clause-is c =
    let x = c.args.self.now in
    let w = err_from_is_err_and c.from_residual.result c.from_residual.ensures.1 in
    rw (w.1, w.2) (first_refused c.family_at.new.self.pool.now
    (ShowsFamily (signature_of x) (fuel_of x) (depth_of x) (context_by (term_of x) c.args.node.context) c.args.at) _ c.in_err-family.field-0.0
    c.in_err-family.ensures.is)

pub returns-then-number-clause-is : goal.returns-then-number-clause-is
returns-then-number-clause-is c =
    let n = c.args.node in
    let i = c.in_ok-family.ensures in
    record-other c.requires.ready i.grows n c.in_ok-family.family i.is.0 c.requires.node.0 c.requires.node.2 c.requires.node.3 c.args.at c.args.fam
    c.args.rest.now i.is.1 (ne_eqb c.in_ok-family.family.fam c.args.fam (λ e. c.if-number.true (c.number.ensures ∙ (e ∙ sym c.number-2.ensures))))

pub returns-then-not-eta-clause-is : goal.returns-then-not-eta-clause-is
returns-then-not-eta-clause-is c =
    let n = c.args.node in
    let i = c.in_ok-family.ensures in
    record-no_eta c.requires.ready i.grows n c.in_ok-family.family i.is.0 c.requires.node.0 c.requires.node.2 c.requires.node.3 c.args.at c.args.fam
    c.args.rest.now i.is.1 (eq-eqb c.in_ok-family.family.fam c.args.fam (sym c.number.ensures ∙ (c.if-number.false ∙ c.number-2.ensures)))
    (ap (λ (t : CoreDecl). (fam_of t).eta) c.in-Family.is ∙ c.if-not-eta.true)

pub returns-in_default-as_slice-clause-is : goal.returns-in_default-as_slice-clause-is
returns-in_default-as_slice-clause-is c =
    let n = c.args.node in
    let i = c.in_ok-family.ensures in
    record-no_con c.requires.ready i.grows n c.in_ok-family.family i.is.0 c.requires.node.0 c.requires.node.2 c.requires.node.3 c.args.at c.args.fam
    c.args.rest.now i.is.1 (eq-eqb c.in_ok-family.family.fam c.args.fam (sym c.number.ensures ∙ (c.if-number.false ∙ c.number-2.ensures)))
    (ap (λ (t : CoreDecl). (fam_of t).eta) c.in-Family.is ∙ c.if-not-eta.false)
    (sym c.as_slice.ensures ∙ none_within c.as_slice.result.now c.in_default-as_slice.len_below)

pub brought-requires-clause-split : goal.brought-requires-clause-split
brought-requires-clause-split c =
    let n = c.args.node in
    let i = c.in_ok-family.ensures in
    absurd-in c.requires.ready i.grows n c.in_ok-family.family i.is.0 c.requires.node.0 c.requires.node.2 c.requires.node.3 c.args.at c.split_on-split.result
    c.split_on-split.ensures c.requires.node.4.0

pub brought-requires-clause-entries : goal.brought-requires-clause-entries
brought-requires-clause-entries c =
    let es : c.as_slice-2.result.now ≡ (fam_of c.in_ok-family.family.entry.now.decl).fields = c.as_slice-2.ensures
    ∙ (c.fields.view_is ∙ sym (ap (λ (t : CoreDecl). (fam_of t).fields) c.in-Family.is)) in
    subst (AllEntries (λ i. i < count c.family_at.new.self)) (sym es) c.in_ok-family.ensures.is.0.decl.fields

pub returns-clause-is : goal.returns-clause-is
returns-clause-is c =
    let n = c.args.node in
    let i = c.in_ok-family.ensures in
    let es : c.as_slice-2.result.now ≡ (fam_of c.in_ok-family.family.entry.now.decl).fields = c.as_slice-2.ensures
    ∙ (c.fields.view_is ∙ sym (ap (λ (t : CoreDecl). (fam_of t).fields) c.in-Family.is)) in
    let ids = c.as_slice.result.now in
    let u = unrolled ids c.con-item.result c.in-len1-up.len_at_least c.con-item.is in
    let m = record-goes c.requires.ready i.grows n c.in_ok-family.family i.is.0 c.requires.node.0 c.requires.node.2 c.requires.node.3 c.brought.new.self
    c.in_ok-context.ensures.grows c.args.at c.args.fam c.args.rest.now c.requires.node.1 c.requires.node.4 i.is.1
    (eq-eqb c.in_ok-family.family.fam c.args.fam (sym c.number.ensures ∙ (c.if-number.false ∙ c.number-2.ensures)))
    (ap (λ (t : CoreDecl). (fam_of t).eta) c.in-Family.is ∙ c.if-not-eta.false) c.con-item.result (take (length ids - 1) (drop 1 ids))
    (sym c.as_slice.ensures ∙ u) c.split_on-split.result c.split_on-split.ensures c.as_slice-2.result.now es c.in_ok-context.field-0
    c.in_ok-context.ensures.is in
    (refl, m.0, m.1)
