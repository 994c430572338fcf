use Rattle.std.specs.Prelude.{◌≡◌, ◌<◌, ◌-◌, length, map, reverse, get_or, drop, refl}
use Rattle.std.proofs.Common.{arith, sym, ap, ap₂, subst, ◌∙◌}
use Rattle.core_rules.specs.Mapped.{telescope_map}
use Rattle.unify_rules.specs.Joined.{entries_of, rename}
use Rattle.term_pool.specs.Pool.{tree}
use Rattle.term_pool.specs.Growth.{Extends-length, Extends-trans, Extends-tree}
use Rattle.index_unify.specs.Unified.{context_in}
use Rattle.index_unify.specs.Renaming.{IsRenaming}
use Rattle.index_unify.proofs.Grown.{got, item_has}
use Rattle.index_unify.proofs.Opened.{value_map}
use Rattle.index_unify.proofs.Branches.{entries_more, one_more, those_outside}
use Rattle.index_unify.proofs.branch.entries.Goals as goal

pub rename-requires-clause-t : goal.rename-requires-clause-t
rename-requires-clause-t c =
    let p = c.args.pool.now in
    let ids = c.args.types.now in
    let ks = c.args.keep.now in
    let i = c.loop-left.left - 1 in
    let l : get_or ks i 0 < length ids = got (λ i. i < length ids) ks i 0 (omega (arith, c.loop-left-test.true, c.loop-left.invariant.within)) c.requires.keep in
    let b = item_has ids (get_or ks i 0) c.index-types-at.result l c.index-types-at.is (λ i. i < length p.trees) c.requires.types in
    omega (arith, b, Extends-length c.loop-left.invariant.extends)

pub rename-requires-clause-renaming : goal.rename-requires-clause-renaming
rename-requires-clause-renaming c = subst (IsRenaming c.loop-left.pool _) (sym c.new.ensures.items) (record { within = tt; is = refl })

pub with_type-requires : goal.with_type-requires
with_type-requires c =
    let ids = c.args.types.now in
    let l = got (λ i. i < length ids) c.args.keep.now (c.loop-left.left - 1) 0 (omega (arith, c.loop-left-test.true, c.loop-left.invariant.within)) c.requires.keep in
    omega (arith, l, c.requires.count)

pub loop-left-preserved : goal.loop-left-preserved
loop-left-preserved c =
    let p = c.args.pool.now in
    let q = c.loop-left.pool in
    let r = c.rename.new.pool in
    let i = c.loop-left.invariant in
    let g = c.in_ok-ty.ensures.extends in
    let ids = c.args.types.now in
    let ks = c.args.keep.now in
    let n = c.loop-left.left in
    let x = c.index-types-at.result in
    let k = get_or ks (n - 1) 0 in
    let l : k < length ids = got (λ i. i < length ids) ks (n - 1) 0 (omega (arith, c.loop-left-test.true, i.within)) c.requires.keep in
    let b = item_has ids k x l c.index-types-at.is (λ i. i < length p.trees) c.requires.types in
    let t = Extends-tree x i.extends b ∙ (ap (tree p) c.index-types-at.is ∙ sym (value_map p ids k x l)) in
    let more = entries_more p q r g c.args.old.now c.loop-left.all.items c.push.new.self.items ids (drop n ks) (drop (n - 1) ks) k c.in_ok-ty.ty c.with_type.result (one_more ks n c.loop-left-test.true i.within) c.with_type.ensures c.in_ok-push.ensures.items
    c.in_ok-ty.ensures.is.within (c.in_ok-ty.ensures.is.is ∙ ap₂ rename (those_outside ks n c.loop-left-test.true i.within) t) in
    record {
      extends = Extends-trans i.extends g;
      within = omega (arith, i.within);
      below = (more (λ t. t) (record { within = i.below; is = i.is (λ t. t) })).within;
      is = λ h. (more h (record { within = i.below; is = i.is h })).is;
    }

pub returns-clause-is : goal.returns-clause-is
returns-clause-is c = λ h.
    let p = c.args.pool.now in
    let z : c.loop-left.left ≡ 0 = omega (arith, c.loop-left-test.false) in
    c.loop-left.invariant.is h ∙ ap (λ n. reverse (entries_of (telescope_map h (context_in p c.args.old.now)) (map (tree p) c.args.types.now) (drop n c.args.keep.now))) z
