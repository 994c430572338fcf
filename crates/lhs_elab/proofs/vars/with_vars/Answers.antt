use Rattle.std.proofs.Common.{◌≡◌, ℕ, suc, ◌+◌, ◌-◌, ◌∷◌, ◌++◌, List, map, refl, ap, sym, ◌∙◌, arith}
use Rattle.core_rules.specs.Term.{Term, Var}
use Rattle.core_rules.specs.TypedTree.{vars}
use Rattle.term_pool.specs.Pool.{tree}
use Rattle.term_pool.specs.Growth.{Extends-refl, Extends-trans}
use Rattle.lhs_elab.proofs.Nexts.{ids-next, trees-next}
use Rattle.lhs_elab.proofs.vars.with_vars.Goals as goal

pub loop-left-init : goal.loop-left-init
loop-left-init c = record { extends = Extends-refl c.args.pool.now; below = c.requires.terms; is = refl }

pub loop-left-preserved : goal.loop-left-preserved
loop-left-preserved c =
    let i = c.loop-left.invariant in
    let p = c.args.pool.now in
    let q = c.loop-left.pool in
    let r = c.add.new.self in
    let k = c.in_ok-var.ensures in
    let made = c.loop-left.made.items in
    let new = c.push.new.self.items in
    let left = c.loop-left.left in
    let at = c.loop-left.at in
    let one : left ≡ suc (left - 1) = omega (arith, c.loop-left-test.true) in
    let n : at + 1 ≡ c.in-Some.next = omega (arith, c.in-Some.ensures) in
    let vs : Var at ∷ vars c.in-Some.next (left - 1) ≡ vars at left =
    ap (λ (j : ℕ). Var at ∷ vars j (left - 1)) (sym n) ∙ ap (vars at) (sym one) in
    record {
      extends = Extends-trans i.extends k.extends;
      below = ids-next q r k.extends made new c.in_ok-var.var c.in_ok-push.ensures.items i.below k.stands.within;
      is = trees-next q r k.extends made new c.in_ok-var.var c.in_ok-push.ensures.items i.below (Var at) (vars c.in-Some.next (left - 1)) (map (tree p) c.args.terms.items ++ vars c.args.from c.args.count) k.stands.is
          (ap (λ (us : List Term). map (tree q) made ++ us) vs ∙ i.is);
    }
