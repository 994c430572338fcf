use Rattle.std.proofs.Common.{◌≡◌, List, length, ap, ap₂, sym, subst, ◌∙◌, arith}
use Rattle.core_rules.specs.Heads.{Answer, Form}
use Rattle.core_rules.specs.Mapped.{fam_map}
use Rattle.core_rules.specs.Signature.{FamDecl}
use Rattle.core_rules.specs.Term.{Fam, Term}
use Rattle.core_rules.proofs.Heads.Mapped.{field_place-map}
use Rattle.core_terms.specs.Signature.{fam_of, signature_in}
use Rattle.kernel_rules.specs.TermReading.{arguments_for}
use Rattle.term_pool.specs.Pool.{tree}
use Rattle.weak_head.proofs.Lookups.{no_field}
use Rattle.weak_head.specs.Elims.{AllBelow, spine_in}
use Rattle.weak_head.specs.States.{answer_in}
use Rattle.weak_head.specs.declared.elim.Elim.{Elim}
use Rattle.declared_types.proofs.Fields.{field_named, field_fam_below, field_family, field_place_fam}
use Rattle.lhs_elab.specs.Walking.{own_at}
use Rattle.lhs_elab.proofs.FamilyHeads.{none-some}
use Rattle.lhs_elab.proofs.Functions.{applied-in, other-family}
use Rattle.lhs_elab.proofs.Owning.{no-field, other-record, own-is, own-none, own-other}
use Rattle.lhs_elab.proofs.walk.own_params.Goals as goal

pub returns-then-number-fields-clause-is : goal.returns-then-number-fields-clause-is
returns-then-number-fields-clause-is c =
    let p = c.args.pool.now in
    let g = c.args.sig.now in
    let none = no_field g c.args.field (omega (arith, c.if-number-fields.true, c.number.ensures, c.fields.ensures)) in
    own-none (signature_in p g) c.args.field (no-field (signature_in p g) c.args.field (field_place-map (tree p) g c.args.field ∙ none)) (answer_in (tree p) c.args.shown.now.meta c.args.shown.now.form)

pub returns-in_default-clause-is : goal.returns-in_default-clause-is
returns-in_default-clause-is c =
    let p = c.args.pool.now in
    let m = c.args.shown.now.meta in
    let a = c.args.shown.now.form in
    own-other (signature_in p c.args.sig.now) c.args.field (answer_in (tree p) m a) (other-family (tree p) m a c.node.result (none-some m (sym c.is_some.ensures ∙ c.if-is_some.false)) c.node.ensures.is c.in_default.not-Fam)

pub returns-then-number-clause-is : goal.returns-then-number-clause-is
returns-then-number-clause-is c =
    let p = c.args.pool.now in
    let g = c.args.sig.now in
    let m = c.args.shown.now.meta in
    let a = c.args.shown.now.form in
    let k = c.args.field in
    let is = field_named p g k (omega (arith, c.if-number-fields.false, c.number.ensures, c.fields.ensures)) in
    let s = field_place_fam p g k c.field-of.result.0 c.field-of.result.1 c.field-of.ensures is in
    let es = spine_in (tree p) a.spine.items in
    let w : answer_in (tree p) m a ≡ Form (Fam c.in-Fam.fam) es = applied-in (tree p) m a (none-some m (sym c.is_some.ensures ∙ c.if-is_some.false)) ∙ ap (λ (h : Term). Form h es) c.in-Fam.ensures.is in
    ap (λ (v : Answer). own_at (signature_in p g) v k) w ∙ other-record (signature_in p g) c.in-Fam.fam es k is (λ e. absurd (omega (arith, e, s, c.if-number.true, c.number-2.ensures, c.number-3.ensures)))

pub fam-requires : goal.fam-requires
fam-requires c =
    let p = c.args.pool.now in
    let g = c.args.sig.now in
    let is = field_named p g c.args.field (omega (arith, c.if-number-fields.false, c.number.ensures, c.fields.ensures)) in
    field_fam_below p g c.args.field c.field-of.result.0 c.field-of.result.1 c.field-of.ensures is

pub returns-clause-is : goal.returns-clause-is
returns-clause-is c =
    let p = c.args.pool.now in
    let g = c.args.sig.now in
    let m = c.args.shown.now.meta in
    let t = c.args.shown.now.form in
    let k = c.args.field in
    let a = c.field-of.result.0 in
    let b = c.field-of.result.1 in
    let x = fam_of c.fam.result.now.decl in
    let xs = c.as_slice.result.now in
    let es = spine_in (tree p) xs in
    let d = c.in-Fam.fam in
    let is = field_named p g k (omega (arith, c.if-number-fields.false, c.number.ensures, c.fields.ensures)) in
    let s = field_place_fam p g k a b c.field-of.ensures is in
    let same : is.fam ≡ d = omega (arith, s, c.if-number.false, c.number-2.ensures, c.number-3.ensures) in
    let decl = field_family p g k a b x c.field-of.ensures c.fam.ensures.is is in
    let w : answer_in (tree p) m t ≡ Form (Fam d) es =
    applied-in (tree p) m t (none-some m (sym c.is_some.ensures ∙ c.if-is_some.false)) ∙ ap₂ (λ (h : Term) (ys : List Elim). Form h (spine_in (tree p) ys)) c.in-Fam.ensures.is (sym c.as_slice.ensures) in
    own-is (signature_in p g) d es k is p same (own_at (signature_in p g) (answer_in (tree p) m t) k) (ap (λ (v : Answer). own_at (signature_in p g) v k) w) c.params_for.result (λ n. AllBelow n xs)
    (λ f. arguments_for (fam_map f x).params (spine_in f xs)) (subst (AllBelow (length p.trees)) (sym c.as_slice.ensures) c.requires.1) (ap (λ (v : FamDecl Term). arguments_for v.params es) (sym decl)) c.params_for.ensures.is c.params_for.ensures.below
