use Rattle.std.proofs.Common.{◌≡◌, ◌+◌, ℕ, arith, subst, sym}
use Rattle.core_rules.specs.Term.{Var}
use Rattle.core_rules.specs.TypedTree.{vars}
use Rattle.term_pool.specs.Pool.{StandsFor}
use Rattle.term_pool.specs.Growth.{Extends-trans}
use Rattle.tree_kernel.specs.Stand.{Stand}
use Rattle.tree_kernel.proofs.Lists.{stand-more, stand-push, vars-next}
use Rattle.tree_kernel.proofs.environment.variables.Goals as goal

pub loop-i-preserved : goal.loop-i-preserved
loop-i-preserved c =
    let i = c.loop-i.invariant in
    let q = c.loop-i.pool in
    let r = c.add.new.self in
    let xs = c.loop-i.all.items in
    let k = c.loop-i.i in
    let e = c.in_ok-var.ensures in
    let n : c.in-Some.index ≡ c.args.from + k = omega (arith, c.in-Some.ensures) in
    let s = subst (λ (m : ℕ). StandsFor r c.in_ok-var.var (Var m)) n e.stands in
    record {
      extends = Extends-trans i.extends e.extends;
      stand = subst (Stand r c.push.new.self.items) (sym (vars-next c.args.from k))
          (stand-push r xs c.push.new.self.items c.in_ok-var.var (vars c.args.from k) (Var (c.args.from + k)) c.in_ok-push.ensures.items
          (stand-more q r xs (vars c.args.from k) e.extends i.stand) s);
    }
