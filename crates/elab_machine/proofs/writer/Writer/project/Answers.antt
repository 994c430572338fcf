use Rattle.std.proofs.Common.{ℕ, List, map, refl, ap, subst, ◌∙◌, arith}
use Rattle.core_rules.specs.Term.{Proj}
use Rattle.core_rules.specs.Substitution.{under}
use Rattle.core_rules.specs.Typing.{field_env}
use Rattle.term_pool.specs.Pool.{StandsFor, tree}
use Rattle.term_pool.specs.Growth.{Extends-tree, Extends-StandsFor}
use Rattle.elab_machine.specs.Writer.{signature_of}
use Rattle.elab_machine.proofs.writer.Writer.project.Goals as goal

pub returns-clause-is : goal.returns-clause-is
returns-clause-is c =
    let x = c.args.self.now in
    let p = x.pool.now in
    let s = c.in_ok-made.ensures.stands in
    let g = c.in_ok-ty.ensures.extends in
    let h = c.in_ok-made.ensures.extends in
    record {
      field = omega (arith, c.if-number-fields.false, c.number.ensures, c.fields.ensures);
      arg = s.within;
      used = refl;
      term = record { within = s.within; is = s.is ∙ ap (Proj c.args.field) (Extends-tree c.args.term g c.requires.term) };
      ty = λ is. Extends-StandsFor h
          (subst (λ (ids : List ℕ). StandsFor c.type_of_field.new.pool c.in_ok-ty.ty (under (field_env (signature_of x) c.args.field is (map (tree p) ids) (tree p c.args.term)) is.entry.ty)) c.into_vec.ensures (c.in_ok-ty.ensures.is is));
    }
