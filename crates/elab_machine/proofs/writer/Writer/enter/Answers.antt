use Rattle.std.proofs.Common.{◌+◌, ◌≡◌, ◌∷◌, [], refl, subst, ◌∙◌, arith}
use Rattle.term_pool.specs.Pool.{Extends, tree}
use Rattle.term_pool.specs.Growth.{Extends-length, Extends-tree, Extends-trans}
use Rattle.core_rules.specs.Term.{Term}
use Rattle.core_terms.proofs.SignatureGrowth.{Stands-extends}
use Rattle.elab_machine.specs.Writer.{IsFurther}
use Rattle.elab_machine.proofs.Raised.{values-entered, pushed-values}
use Rattle.elab_machine.proofs.writer.Writer.enter.Goals as goal

pub returns-clause-enters : goal.returns-clause-enters
returns-clause-enters c =
    let x = c.args.self.now in
    let p = x.pool.now in
    let q = c.add.new.self in
    let r = c.further.new.pool in
    let n = x.inside in
    let vs = x.values.now.items in
    let inner : c.in-Some.inside ≡ n + 1 = omega (arith, c.in-Some.ensures) in
    let h = c.in_ok-next.ensures in
    let e : Extends p r = Extends-trans c.in_ok-value.ensures.extends h.extends in
    let v = c.in_ok-value.ensures.stands in
    let same : tree q c.args.ty ≡ tree p c.args.ty = Extends-tree c.args.ty c.in_ok-value.ensures.extends c.requires.ty in
    let value = Extends-tree c.in_ok-value.value h.extends v.within ∙ v.is in
    let items = c.in_ok-push.ensures.items in
    record {
      enters = record {
        signature = refl;
        limits = refl;
        more = record { solved = record { name = c.args.name; value = c.in_ok-value.value; ty = c.args.ty }; inside = c.in-Some.inside; ty_inside = n } ∷ [];
        values = items;
        ready = record {
          signature = Stands-extends p r x.signature.now e c.requires.ready.signature;
          values = rw (items, inner) (pushed-values p r n c.args.name c.args.ty c.in_ok-value.value vs e c.requires.ready.values c.requires.ty (omega (arith, Extends-length h.extends, v.within)));
        };
      };
      values = rw (items, inner) (values-entered p r n c.args.name c.args.ty c.in_ok-value.value vs e c.requires.ready.values c.requires.ty value);
      within = h.within;
      ty = subst (λ (t : Term). IsFurther c.args.more.now t (tree r c.in_ok-next.next)) same h.is;
    }
