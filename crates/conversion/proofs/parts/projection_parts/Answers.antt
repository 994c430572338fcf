use Rattle.std.proofs.Common.{◌<◌, [], length, ap, sym, ◌∙◌, arith}
use Rattle.core_rules.specs.Elimination.{elims}
use Rattle.core_rules.specs.Bounded.{Pair, argument_parts, parts_or, with_part}
use Rattle.term_pool.specs.Pool.{tree}
use Rattle.term_pool.specs.Growth.{Extends-trans, Extends-tree, Extends-length}
use Rattle.conversion.specs.Spine.{cut_in}
use Rattle.conversion.proofs.Stays.{spine_more, spine_stays}
use Rattle.conversion.proofs.Cuts.{by_cuts_same}
use Rattle.conversion.proofs.parts.projection_parts.Goals as goal

pub returns-clause-is : goal.returns-clause-is
returns-clause-is c = λ q.
    let p = c.args.pool.now in
    let p1 = c.applied_to.new.pool in
    let p2 = c.applied_to-2.new.pool in
    let cut = c.args.cut.now in
    let other = c.args.other.now in
    let g = c.in_ok-first.ensures.extends in
    let h = c.in_ok-second.ensures.extends in
    let e1 = Extends-tree c.in_ok-first.first h c.in_ok-first.ensures.is.within ∙ c.in_ok-first.ensures.is.is in
    let t = Extends-tree c.args.right g c.requires.right in
    let s = spine_stays g other.before.now c.requires.other.0 in
    let m : _ = λ i. elims (t i) (s i) in
    let e2 = c.in_ok-second.ensures.is.is ∙ m in
    let a1 = spine_stays (Extends-trans g h) cut.after.now c.requires.cut.1 in
    let a2 = spine_stays (Extends-trans g h) other.after.now c.requires.other.1 in
    let x : _ = λ i. with_part (Pair [] (e1 i) (e2 i)) (argument_parts (a1 i) (a2 i)) in
    let r = ap (with_part (Pair [] (tree p2 c.in_ok-first.first) (tree p2 c.in_ok-second.second))) (c.in_ok-rest.ensures.is (tree p2)) in
    ap (parts_or q) (c.in_ok-made.ensures.is (tree p2) ∙ r ∙ x)
    ∙ sym (by_cuts_same q (tree p c.args.left) (cut_in (tree p) cut) (tree p c.args.right) (cut_in (tree p) other) (omega (arith, c.if-number.false, c.number.ensures, c.number-2.ensures)))

pub returns-clause-below : goal.returns-clause-below
returns-clause-below c =
    let p2 = c.applied_to-2.new.pool in
    let g = c.in_ok-first.ensures.extends in
    let h = c.in_ok-second.ensures.extends in
    let n = length p2.trees in
    let l : c.in_ok-first.first < n = let w = c.in_ok-first.ensures.is.within in omega (arith, w, Extends-length h) in
    c.in_ok-made.ensures.below n l c.in_ok-second.ensures.is.within
    (c.in_ok-rest.ensures.below n (spine_more (Extends-trans g h) c.args.cut.now.after.now c.requires.cut.1) (spine_more (Extends-trans g h) c.args.other.now.after.now c.requires.other.1))
