use Rattle.std.proofs.Common.{◌≡◌, length, false, option_map, ap, sym, ◌∙◌, subst}
use Rattle.core_rules.specs.Bounded.{parts_or, same_heads}
use Rattle.term_pool.specs.Pool.{tree}
use Rattle.weak_head.specs.Elims.{AllBelow, spine_in}
use Rattle.conversion.specs.Part.{all_in}
use Rattle.conversion.specs.Heads.{bare, bare_parts, is_same_head, rigid}
use Rattle.conversion.proofs.Slices.{empty_of}
use Rattle.conversion.proofs.HeadParts.{heads_apart, not_bare, all_bare, if_bare, made_parts}
use Rattle.conversion.proofs.heads.head_parts.Goals as goal

pub returns-then-is_same_head-clause-below : goal.returns-then-is_same_head-clause-below
returns-then-is_same_head-clause-below c =
    let n = length c.args.pool.now.trees in
    c.in_ok-made.ensures.below n (subst (AllBelow n) (sym c.as_slice.ensures) c.requires.left.1) (subst (AllBelow n) (sym c.as_slice-then-is_same_head.ensures) c.requires.right.1)

pub returns-then-not-is_empty-clause-is : goal.returns-then-not-is_empty-clause-is
returns-then-not-is_empty-clause-is c = λ q.
    let f = tree c.args.pool.now in
    let a = c.node-head.result in
    let b = c.node-other.result in
    let xs = c.args.left.now.spine.items in
    let ds = spine_in f c.args.right.now.spine.items in
    let r : _ = λ i. is_same_head (c.rigid_of.ensures i) (c.rigid_of-2.ensures i) in
    let n : is_same_head (rigid a) (rigid b) ≡ false = sym r ∙ sym c.is_same_head.ensures ∙ c.if-is_same_head.false in
    let t : _ = λ i. same_heads q (c.node-head.ensures.is i) (spine_in f xs) (c.node-other.ensures.is i) ds in
    sym (t ∙ heads_apart f q a b (spine_in f xs) ds n ∙ not_bare f q (option_map (all_in f) (bare_parts (bare a) (bare b))) xs ds (sym c.is_empty.ensures ∙ c.if-not-is_empty.true))

pub returns-clause-is : goal.returns-clause-is
returns-clause-is c = λ q.
    let f = tree c.args.pool.now in
    let a = c.node-head.result in
    let b = c.node-other.result in
    let xs = c.args.left.now.spine.items in
    let ys = c.args.right.now.spine.items in
    let r : _ = λ i. is_same_head (c.rigid_of.ensures i) (c.rigid_of-2.ensures i) in
    let n : is_same_head (rigid a) (rigid b) ≡ false = sym r ∙ sym c.is_same_head.ensures ∙ c.if-is_same_head.false in
    let t : _ = λ i. same_heads q (c.node-head.ensures.is i) (spine_in f xs) (c.node-other.ensures.is i) (spine_in f ys) in
    let e = empty_of xs (sym c.is_empty.ensures ∙ c.if-not-is_empty.false) in
    let d = empty_of ys (sym c.is_empty-2.ensures ∙ c.if-not-is_empty-2.false) in
    let o = option_map (all_in f) (bare_parts (bare a) (bare b)) in
    let z : _ = λ i. if_bare q o (spine_in f (e i)) (spine_in f (d i)) in
    let m : _ = λ i. bare_parts (c.bare_of.ensures i) (c.bare_of-2.ensures i) in
    ap (parts_or q) (made_parts f c.in_ok-made-2.made (bare_parts (bare a) (bare b)) (c.in_ok-made-2.ensures ∙ m)) ∙ all_bare f q o
    ∙ sym (t ∙ heads_apart f q a b (spine_in f xs) (spine_in f ys) n ∙ z)
