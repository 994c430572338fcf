use Rattle.std.proofs.Common.{◌≡◌, ap, sym, ◌∙◌, arith}
use Rattle.core_rules.specs.Mapped.{fam_map}
use Rattle.core_rules.proofs.Heads.Mapped.{field_place-map}
use Rattle.core_terms.specs.Signature.{fam_of, signature_in}
use Rattle.term_pool.specs.Pool.{tree}
use Rattle.kernel_rules.specs.TermReading.{arguments_for}
use Rattle.weak_head.specs.Elims.{AllBelow, spine_in}
use Rattle.weak_head.proofs.Lookups.{no_field}
use Rattle.declared_types.proofs.Fields.{field_named, field_fam_below, field_family, field_place_fam}
use Rattle.implicit_insert.proofs.Own.{no_own_field, other_fam, own_is}
use Rattle.implicit_insert.proofs.table.own_params.Goals as goal

pub returns-then-number-fields : goal.returns-then-number-fields
returns-then-number-fields c =
    let p = c.args.pool.now in
    let g = c.args.sig.now in
    let none = no_field g c.args.field (omega (arith, c.if-number-fields.true, c.number.ensures, c.fields.ensures)) in
    no_own_field (signature_in p g) c.args.fam (spine_in (tree p) c.args.spine.now) c.args.field (field_place-map (tree p) g c.args.field ∙ none)

pub returns-then-number : goal.returns-then-number
returns-then-number c =
    let p = c.args.pool.now in
    let g = c.args.sig.now in
    let is = field_named p g c.args.field (omega (arith, c.if-number-fields.false, c.number.ensures, c.fields.ensures)) in
    let s = field_place_fam p g c.args.field c.field-of.result.0 c.field-of.result.1 c.field-of.ensures is in
    other_fam (signature_in p g) c.args.fam (spine_in (tree p) c.args.spine.now) c.args.field is (λ e. absurd (omega (arith, e, s, c.if-number.true, c.number-2.ensures, c.number-3.ensures)))

pub fam-requires : goal.fam-requires
fam-requires c =
    let p = c.args.pool.now in
    let g = c.args.sig.now in
    let is = field_named p g c.args.field (omega (arith, c.if-number-fields.false, c.number.ensures, c.fields.ensures)) in
    field_fam_below p g c.args.field c.field-of.result.0 c.field-of.result.1 c.field-of.ensures is

pub returns : goal.returns
returns c =
    let p = c.args.pool.now in
    let g = c.args.sig.now in
    let k = c.args.field in
    let a = c.field-of.result.0 in
    let b = c.field-of.result.1 in
    let x = fam_of c.fam.result.now.decl in
    let es = c.args.spine.now in
    let is = field_named p g k (omega (arith, c.if-number-fields.false, c.number.ensures, c.fields.ensures)) in
    let s = field_place_fam p g k a b c.field-of.ensures is in
    let same : is.fam ≡ c.args.fam = omega (arith, s, c.if-number.false, c.number-2.ensures, c.number-3.ensures) in
    let d = field_family p g k a b x c.field-of.ensures c.fam.ensures.is is in
    own_is p (signature_in p g) c.args.fam (spine_in (tree p) es) k is same c.params_for.result (λ n. AllBelow n es) (λ f. arguments_for (fam_map f x).params (spine_in f es)) c.requires (ap (λ d. arguments_for d.params (spine_in (tree p) es)) (sym d)) c.params_for.ensures.is c.params_for.ensures.below
