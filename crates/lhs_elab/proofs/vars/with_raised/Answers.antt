use Rattle.std.proofs.Common.{◌≡◌, ◌<◌, ℕ, ◌-◌, ◌∷◌, ◌++◌, List, length, take, drop, map, refl, ap, sym, subst, ◌∙◌}
use Rattle.std.specs.List.{AllByRecursion}
use Rattle.core_rules.specs.Term.{Term}
use Rattle.core_rules.specs.Substitution.{shift}
use Rattle.term_pool.specs.Pool.{tree}
use Rattle.term_pool.specs.Growth.{Extends-refl, Extends-trans, Extends-tree}
use Rattle.conversion.proofs.Slices.{unrolled}
use Rattle.lhs_elab.proofs.Nexts.{ids-next, trees-next}
use Rattle.lhs_elab.proofs.vars.with_raised.Goals as goal

pub loop-left-init : goal.loop-left-init
loop-left-init c = record { extends = Extends-refl c.args.pool.now; below = c.requires.terms; left = c.requires.list; is = refl }

pub loop-left-preserved : goal.loop-left-preserved
loop-left-preserved c =
    let i = c.loop-left.invariant in
    let p = c.args.pool.now in
    let q = c.loop-left.pool in
    let r = c.shift.new.pool in
    let k = c.in_ok-raised.ensures in
    let made = c.loop-left.made.items in
    let new = c.push.new.self.items in
    let left = c.loop-left.left.now in
    let more = take (length left - 1) (drop 1 left) in
    let x = c.term-item.result in
    let l : left ≡ x ∷ more = unrolled left x c.in-len1-up.len_at_least c.term-item.is in
    let b : AllByRecursion (λ t. t < length p.trees) (x ∷ more) = subst (AllByRecursion (λ t. t < length p.trees)) l i.left in
    let raised : List Term → List Term = map (λ t. shift t 0 c.args.by) in
    let one : tree r c.in_ok-raised.raised ≡ shift (tree p x) 0 c.args.by = k.is.is ∙ ap (λ (t : Term). shift t 0 c.args.by) (Extends-tree x i.extends b.0) in
    record {
      extends = Extends-trans i.extends k.extends;
      below = ids-next q r k.extends made new c.in_ok-raised.raised c.in_ok-push.ensures.items i.below k.is.within;
      left = b.1;
      is = trees-next q r k.extends made new c.in_ok-raised.raised c.in_ok-push.ensures.items i.below (shift (tree p x) 0 c.args.by) (raised (map (tree p) more)) (map (tree p) c.args.terms.items ++ raised (map (tree p) c.args.list.now)) one
          (ap (λ (xs : List ℕ). map (tree q) made ++ raised (map (tree p) xs)) (sym l) ∙ i.is);
    }
