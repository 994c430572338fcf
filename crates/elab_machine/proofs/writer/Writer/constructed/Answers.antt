use Rattle.std.proofs.Common.{◌≡◌, ◌<◌, List, ℕ, length, map, ap, sym, subst, ◌∙◌}
use Rattle.std.specs.Prelude.{reverse}
use Rattle.std.specs.List.{AllByRecursion}
use Rattle.el_base.proofs.Lists.{map-reverse}
use Rattle.el_base.proofs.Throughout.{all-reverse}
use Rattle.core_rules.specs.Elimination.{con_type}
use Rattle.core_rules.specs.Signature.{Signature}
use Rattle.core_rules.specs.Substitution.{under}
use Rattle.core_rules.specs.Term.{Term, Con, from_list}
use Rattle.core_rules.specs.Typing.{IsCon}
use Rattle.term_pool.specs.Pool.{StandsFor}
use Rattle.term_pool.specs.Growth.{Extends-StandsFor}
use Rattle.term_pool.specs.Placed.{items-stay}
use Rattle.declared_types.proofs.Grown.{all-grown}
use Rattle.elab_machine.specs.Writer.{term_of}
use Rattle.elab_machine.proofs.Kept.{ready_kept, signature_same}
use Rattle.elab_machine.proofs.writer.Writer.constructed.Goals as goal

pub type_of_con-requires-clause-stands : goal.type_of_con-requires-clause-stands
type_of_con-requires-clause-stands c =
    (ready_kept c.requires.ready c.in_ok-term.ensures.grows c.in_ok-term.ensures.keeps).signature

pub type_of_con-requires-clause-con : goal.type_of_con-requires-clause-con
type_of_con-requires-clause-con c =
    let k = c.in_ok-term.ensures in
    subst (λ (g : Signature Term). IsCon g c.args.con) (sym (signature_same c.requires.ready k.grows k.keeps.signature k.keeps.limits)) c.requires.con

pub type_of_con-requires-clause-params : goal.type_of_con-requires-clause-params
type_of_con-requires-clause-params c =
    let x = c.args.self.now in
    let y = c.con_at.new.self in
    let us = c.args.params.items in
    let same : c.as_slice-2.result.now ≡ reverse us = c.as_slice-2.ensures.value ∙ c.reverse.ensures.items in
    subst (AllByRecursion (λ t. t < length y.pool.now.trees)) (sym same) (all-reverse (λ t. t < length y.pool.now.trees) us (all-grown x.pool.now y.pool.now us c.in_ok-term.ensures.grows.extends c.requires.params))

pub returns-clause-is : goal.returns-clause-is
returns-clause-is c = λ is.
    let x = c.args.self.now in
    let y = c.con_at.new.self in
    let k = c.in_ok-term.ensures in
    let us = c.args.params.items in
    let same : c.as_slice-2.result.now ≡ reverse us = c.as_slice-2.ensures.value ∙ c.reverse.ensures.items in
    let env : map (term_of y) c.as_slice-2.result.now ≡ reverse (map (term_of x) us) =
    ap (map (term_of y)) same ∙ map-reverse (term_of y) us ∙ ap reverse (items-stay x.pool.now y.pool.now us k.grows.extends c.requires.params) in
    let con = subst (λ (ids : List ℕ). StandsFor y.pool.now c.in_ok-term.term (Con c.args.con (from_list (map (term_of x) ids)))) c.as_slice.ensures.value k.is in
    let T : Signature Term → Type 0 = λ g. (is : IsCon g c.args.con) → StandsFor c.type_of_con.new.pool c.in_ok-ty.ty (under (map (term_of y) c.as_slice-2.result.now) (con_type is.fam is.decl is.con)) in
    let ty = subst T (signature_same c.requires.ready k.grows k.keeps.signature k.keeps.limits) c.in_ok-ty.ensures.is is in
    record {
      term = Extends-StandsFor c.in_ok-ty.ensures.extends con;
      ty = subst (λ (ts : List Term). StandsFor c.type_of_con.new.pool c.in_ok-ty.ty (under ts (con_type is.fam is.decl is.con))) env ty;
    }
