use Rattle.std.proofs.Common.{◌≡◌, ◌<◌, ℕ, ◌-◌, ◌∷◌, ◌++◌, List, length, take, drop, map, ap, ap₂, sym, subst, ◌∙◌, arith}
use Rattle.std.specs.List.{AllByRecursion}
use Rattle.core_rules.specs.Term.{Term}
use Rattle.core_rules.specs.Substitution.{shift, under}
use Rattle.core_rules.specs.TypedTree.{equations}
use Rattle.core_rules.specs.Unification.{eq}
use Rattle.index_unify.specs.Unified.{equations_in}
use Rattle.term_pool.specs.Pool.{tree}
use Rattle.term_pool.specs.Growth.{Extends-length, Extends-trans, Extends-tree}
use Rattle.term_pool.specs.Placed.{items-stay}
use Rattle.conversion.proofs.Slices.{unrolled}
use Rattle.lhs_elab.proofs.Nexts.{equations-below, equations-next}
use Rattle.lhs_elab.proofs.equations.equated.Goals as goal

pub loop-left-preserved : goal.loop-left-preserved
loop-left-preserved c =
    let i = c.loop-left.invariant in
    let p = c.args.pool.now in
    let q = c.loop-left.pool in
    let v = c.con_index.new.pool in
    let r = c.shift.new.pool in
    let k = c.in_ok-first.ensures in
    let m = c.in_ok-second.ensures in
    let made = c.loop-left.made.items in
    let new = c.push.new.self.items in
    let left = c.loop-left.left.now in
    let others = c.loop-left.others.now in
    let more = take (length left - 1) (drop 1 left) in
    let rest = take (length others - 1) (drop 1 others) in
    let x = c.end-item.result in
    let y = c.index-item.result in
    let l : left ≡ x ∷ more = unrolled left x c.in-len1-up.len_at_least c.end-item.is in
    let o : others ≡ y ∷ rest = unrolled others y c.in-len1-up-others.len_at_least c.index-item.is in
    let a : AllByRecursion (λ t. t < length p.trees) (x ∷ more) = subst (AllByRecursion (λ t. t < length p.trees)) l i.left in
    let b : AllByRecursion (λ t. t < length p.trees) (y ∷ rest) = subst (AllByRecursion (λ t. t < length p.trees)) o i.others in
    let E : List Term = map (tree p) c.args.env.now in
    let lefts : List ℕ → List Term = λ (ts : List ℕ). map (λ t. shift (under E t) 0 c.args.inner) (map (tree p) ts) in
    let rights : List ℕ → List Term = λ (ts : List ℕ). map (λ t. shift t 0 c.args.by) (map (tree p) ts) in
    let qv = Extends-trans i.extends k.extends in
    let env : map (tree q) c.args.env.now ≡ E = items-stay p q c.args.env.now i.extends c.requires.env in
    let first : tree r c.in_ok-first.first ≡ shift (under E (tree p x)) 0 c.args.inner =
    Extends-tree c.in_ok-first.first m.extends k.is.within ∙ (k.is.is ∙ ap₂ (λ (e : List Term) (t : Term). shift (under e t) 0 c.args.inner) env (Extends-tree x i.extends a.0)) in
    let second : tree r c.in_ok-second.second ≡ shift (tree p y) 0 c.args.by = m.is.is ∙ ap (λ (t : Term). shift t 0 c.args.by) (Extends-tree y qv b.0) in
    record {
      extends = Extends-trans qv m.extends;
      below = equations-below q r (Extends-trans k.extends m.extends) made new (record { left = c.in_ok-first.first; right = c.in_ok-second.second }) c.in_ok-push.ensures.items i.below (let w = k.is.within in omega (arith, w, Extends-length m.extends), m.is.within);
      left = a.1;
      others = b.1;
      is = equations-next q r (Extends-trans k.extends m.extends) made new (record { left = c.in_ok-first.first; right = c.in_ok-second.second }) c.in_ok-push.ensures.items i.below (eq (shift (under E (tree p x)) 0 c.args.inner) (shift (tree p y) 0 c.args.by))
          (equations (lefts more) (rights rest)) (equations (lefts c.args.ends.now) (rights c.args.own.now)) (ap₂ eq first second)
          (ap₂ (λ (xs ys : List ℕ). equations_in q made ++ equations (lefts xs) (rights ys)) (sym l) (sym o) ∙ i.is);
    }
