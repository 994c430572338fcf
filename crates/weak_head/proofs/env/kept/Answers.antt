use Rattle.std.proofs.Common.{◌≡◌, ◌<◌, ◌+◌, ◌-◌, map, drop, length, sym, ap, ◌∙◌, subst, arith}
use Rattle.core_rules.specs.Substitution.{value_at}
use Rattle.term_pool.specs.Pool.{tree}
use Rattle.term_pool.specs.Growth.{Extends-trans}
use Rattle.el_base.proofs.Throughout.{all-push}
use Rattle.weak_head.specs.Elims.{env_in}
use Rattle.weak_head.specs.States.{Ids}
use Rattle.weak_head.proofs.Environments.{ids_more, kept_next}
use Rattle.weak_head.proofs.env.kept.Goals as goal

pub loop-left-preserved : goal.loop-left-preserved
loop-left-preserved c =
    let i = c.loop-left.invariant in
    let p = c.args.pool.now in
    let q = c.loop-left.pool in
    let r = c.value.new.pool in
    let v = c.in_ok-v.v in
    let all = c.loop-left.all.items in
    let h = c.in_ok-v.ensures.extends in
    let e = c.in_ok-push.ensures.items in
    let left = c.loop-left.left - 1 in
    record {
      extends = Extends-trans i.extends h;
      below = subst (Ids (length r.trees)) (sym e) (all-push (λ k. k < length r.trees) all v (ids_more h all i.below) c.in_ok-v.ensures.is.within);
      within = omega (arith, i.within);
      is = ap (env_in (tree r)) e ∙ kept_next p q r c.args.env.now all c.args.keep.now left v i.extends h c.requires i.below (omega (arith, i.within, c.loop-left-test.true)) c.in_ok-v.ensures.is.is (i.is ∙ ap (λ k. map (value_at (env_in (tree p) c.args.env.now)) (drop k c.args.keep.now)) (let j : c.loop-left.left ≡ left + 1 = omega (arith, c.loop-left-test.true) in j));
    }
