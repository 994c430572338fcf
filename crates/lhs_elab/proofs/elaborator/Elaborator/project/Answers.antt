use Rattle.std.proofs.Common.{◌≡◌, ◌<◌, ℕ, [], ◌∷◌, ◌++◌, length, map, refl, ap, sym, subst, ◌∙◌, arith}
use Rattle.core_rules.specs.Term.{Term}
use Rattle.core_rules.specs.Signature.{Written, Without, ProjectionPat}
use Rattle.term_pool.specs.Pool.{Extends, tree}
use Rattle.term_pool.specs.Growth.{Extends-trans}
use Rattle.term_pool.specs.Placed.{items-stay}
use Rattle.core_terms.specs.Signature.{field_total}
use Rattle.core_terms.specs.declared.signature.Signature.{Signature}
use Rattle.weak_head.specs.declared.elim.Elim.TheVariants as V
use Rattle.declared_types.proofs.Fields.{field_named}
use Rattle.declared_types.proofs.Grown.{all-grown}
use Rattle.lhs_rules.specs.Spots.{Left, left_term, projected, with_pat}
use Rattle.lhs_elab.specs.declared.left.Left.{Left as CodeLeft}
use Rattle.lhs_elab.specs.Elaborator.{left_of, signature_of}
use Rattle.lhs_elab.proofs.Kept.{on_ok, ready-at, ready-kept, signature-kept}
use Rattle.lhs_elab.proofs.Projecting.{Projects, field-as, projects-below, projects-is}
use Rattle.lhs_elab.proofs.elaborator.Elaborator.project.Goals as goal

pub type_of_field-requires-clause-stands : goal.type_of_field-requires-clause-stands
type_of_field-requires-clause-stands g c =
    let k = c.in_ok-term.ensures in
    (ready-kept g.S.Solutions.solution c.args.self.now c.left_term.new.self c.requires.ready k.grows k.keeps k.left).signature

pub type_of_field-requires-clause-params : goal.type_of_field-requires-clause-params
type_of_field-requires-clause-params g c = all-grown c.args.self.now.pool.now c.left_term.new.self.pool.now c.args.params.items c.in_ok-term.ensures.grows.extends c.requires.params

pub with_pat-requires : goal.with_pat-requires
with_pat-requires g c =
    let x = c.args.self.now in
    let y = c.left_term.new.self in
    let p = x.pool.now in
    let q = c.type_of_field.new.pool in
    let k = c.in_ok-term.ensures in
    let e : Extends p q = Extends-trans k.grows.extends c.in_ok-ty.ensures.extends in
    let m : c.in-Ok.outer ≡ length x.left.now.context.items = omega (arith, c.in-Ok.ensures, c.len.ensures) in
    let l : CodeLeft = record { context = y.left.now.context; spine = c.push.new.self; spots = y.left.now.spots; pats = y.left.now.pats; ty = c.in_ok-ty.ty; inserted = y.left.now.inserted } in
    let f = field_named y.pool.now y.signature.now c.args.field (subst (λ (v : Signature). c.args.field < field_total v) (sym k.keeps.signature) c.requires.field) in
    let u : Projects c.args.field c.in_ok-ty.ty x.left.now l = record {
      context = ap (λ (v : CodeLeft). v.context.items) k.left;
      spine = c.in_ok-push.ensures.items ∙ (ap (λ (v : CodeLeft). v.spine.items ++ record { «elim» = V.Field c.args.field; outer = c.in-Ok.outer } ∷ []) k.left ∙ ap (λ (n : ℕ). x.left.now.spine.items ++ record { «elim» = V.Field c.args.field; outer = n } ∷ []) m);
      spots = ap (λ (v : CodeLeft). v.spots.items) k.left;
      pats = ap (λ (v : CodeLeft). v.pats.items) k.left;
      ty = refl;
      inserted = ap (λ (v : CodeLeft). v.inserted) k.left;
    } in
    record {
      ready = ready-at g.S.Solutions.solution x _ c.requires.ready e k.keeps.signature k.keeps.solutions (projects-below p q e c.args.field c.in_ok-ty.ty x.left.now l c.requires.ready.left u (c.in_ok-ty.ensures.is f).within);
    }

pub returns-clause-left : goal.returns-clause-left
returns-clause-left g c =
    let x = c.args.self.now in
    let y = c.left_term.new.self in
    let p = x.pool.now in
    let q = c.type_of_field.new.pool in
    let k = c.in_ok-term.ensures in
    let e : Extends p q = Extends-trans k.grows.extends c.in_ok-ty.ensures.extends in
    let m : c.in-Ok.outer ≡ length x.left.now.context.items = omega (arith, c.in-Ok.ensures, c.len.ensures) in
    let l : CodeLeft = record { context = y.left.now.context; spine = c.push.new.self; spots = y.left.now.spots; pats = y.left.now.pats; ty = c.in_ok-ty.ty; inserted = y.left.now.inserted } in
    let u : Projects c.args.field c.in_ok-ty.ty x.left.now l = record {
      context = ap (λ (v : CodeLeft). v.context.items) k.left;
      spine = c.in_ok-push.ensures.items ∙ (ap (λ (v : CodeLeft). v.spine.items ++ record { «elim» = V.Field c.args.field; outer = c.in-Ok.outer } ∷ []) k.left ∙ ap (λ (n : ℕ). x.left.now.spine.items ++ record { «elim» = V.Field c.args.field; outer = n } ∷ []) m);
      spots = ap (λ (v : CodeLeft). v.spots.items) k.left;
      pats = ap (λ (v : CodeLeft). v.pats.items) k.left;
      ty = refl;
      inserted = ap (λ (v : CodeLeft). v.inserted) k.left;
    } in
    let typed = field-as (signature_of x) (signature_of y) q c.in_ok-ty.ty c.args.field (map (tree y.pool.now) c.args.params.items) (map (tree p) c.args.params.items) (tree y.pool.now c.in_ok-term.term) (left_term x.function (left_of x))
    (signature-kept g.S.Solutions.solution x y c.requires.ready k.grows k.keeps) (items-stay p y.pool.now c.args.params.items k.grows.extends c.requires.params) k.is.is c.in_ok-ty.ensures.is in
    let a = projects-is p q e c.args.field c.in_ok-ty.ty x.left.now l c.requires.ready.left u in
    on_ok c.with_pat.result _ _ (λ h is. h ∙ (ap (λ (v : Left). with_pat v (ProjectionPat c.args.field) Written Without) a ∙ ap (λ (t : Term). projected (left_of x) c.args.field t) (typed is).is)) c.with_pat.ensures.left
