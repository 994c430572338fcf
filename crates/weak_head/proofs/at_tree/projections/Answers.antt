use Rattle.std.proofs.Common.{ℕ, ◌<◌, length, map, sym, ap, ◌∙◌, subst, arith}
use Rattle.std.proofs.lemmas.List.{take_all}
use Rattle.core_rules.specs.Term.{Term, Proj}
use Rattle.term_pool.specs.Pool.{tree}
use Rattle.term_pool.specs.Growth.{Extends-trans, Extends-tree}
use Rattle.el_base.proofs.Throughout.{all-push}
use Rattle.weak_head.specs.States.{Ids}
use Rattle.weak_head.proofs.Environments.{ids_more, ids_stay, list_next}
use Rattle.weak_head.proofs.at_tree.projections.Goals as goal

pub loop-field-preserved : goal.loop-field-preserved
loop-field-preserved c =
    let i = c.loop-field.invariant in
    let p = c.args.pool.now in
    let q = c.loop-field.pool in
    let r = c.add.new.self in
    let all = c.loop-field.all.items in
    let h = c.in_ok-part.ensures.extends in
    let e = c.in_ok-push.ensures.items in
    record {
      extends = Extends-trans i.extends h;
      below = subst (Ids (length r.trees)) (sym e) (all-push (λ k. k < length r.trees) all c.in_ok-part.part (ids_more h all i.below) c.in_ok-part.ensures.stands.within);
      is = ap (map (tree r)) e ∙ list_next (tree q) (tree r) (λ f. Proj f (tree p c.args.v)) all c.fields_of-field-items.result.now c.in_ok-part.part c.loop-field.field-index c.field-item.result
          (ids_stay h all i.below) i.is (c.in_ok-part.ensures.stands.is ∙ ap (Proj c.field-item.result) (Extends-tree c.args.v i.extends c.requires)) c.loop-field-test.true c.field-item.is;
    }

pub returns-clause-is : goal.returns-clause-is
returns-clause-is c =
    let F : ℕ → Term = λ f. Proj f (tree c.args.pool.now c.args.v) in
    let items = c.fields_of-field-items.result.now in
    c.loop-field.invariant.is ∙ ap (map F) (take_all c.loop-field.field-index items (omega (arith, c.loop-field-test.false)) ∙ c.fields_of-field-items.ensures c.args.pool.now)
