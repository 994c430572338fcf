use Rattle.std.specs.Prelude.{◌<◌, ◌+◌, length, map, take}
use Rattle.std.proofs.Common.{arith, ap, ap₂, ◌∙◌}
use Rattle.core_rules.specs.Unification.{put}
use Rattle.term_pool.specs.Pool.{tree}
use Rattle.term_pool.specs.Growth.{Extends-trans, Extends-length, Extends-tree}
use Rattle.index_unify.proofs.Grown.{IdStands, id_in, ids, pushed, item_has, item_next, all_taken}
use Rattle.index_unify.proofs.put.put_in_terms.Goals as goal

pub put-requires-clause-value : goal.put-requires-clause-value
put-requires-clause-value c = omega (arith, Extends-length c.loop-t.invariant.extends, c.requires.value)

pub put-requires-clause-t : goal.put-requires-clause-t
put-requires-clause-t c =
    omega (arith, Extends-length c.loop-t.invariant.extends, item_has c.args.terms.now c.loop-t.t-index c.t-item.result c.loop-t-test.true c.t-item.is (λ i. i < length c.args.pool.now.trees) c.requires.terms)

pub loop-t-preserved : goal.loop-t-preserved
loop-t-preserved c =
    let p = c.args.pool.now in
    let q = c.loop-t.pool in
    let r = c.put.new.pool in
    let i = c.loop-t.invariant in
    let n = c.loop-t.t-index in
    let ts = c.args.terms.now in
    let x = c.args.solution.now.var in
    let u = c.args.solution.now.value in
    let t = c.t-item.result in
    let h = item_has ts n t c.loop-t-test.true c.t-item.is (λ i. i < length p.trees) c.requires.terms in
    let e = c.in_ok-made.ensures.is.is ∙ ap₂ (put x) (Extends-tree u i.extends c.requires.value) (Extends-tree t i.extends h) in
    record {
      extends = Extends-trans i.extends c.put.ensures.extends;
      made = pushed IdStands id_in ids q r c.put.ensures.extends c.loop-t.all.items c.push.new.self.items (map (put x (tree p u)) (map (tree p) (take n ts))) (map (put x (tree p u)) (map (tree p) (take (n + 1) ts)))
          c.in_ok-made.made (put x (tree p u) (tree p t)) i.made c.in_ok-made.ensures.is.within e c.in_ok-push.ensures.items (item_next ts n t c.loop-t-test.true c.t-item.is (tree p) (put x (tree p u)));
    }

pub returns-clause-below : goal.returns-clause-below
returns-clause-below c = c.loop-t.invariant.made.within

pub returns-clause-is : goal.returns-clause-is
returns-clause-is c =
    let p = c.args.pool.now in
    c.loop-t.invariant.made.is ∙ ap (λ ts. map (put c.args.solution.now.var (tree p c.args.solution.now.value)) (map (tree p) ts)) (all_taken c.args.terms.now c.loop-t.t-index (omega arith))
