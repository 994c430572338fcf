use Rattle.std.specs.Prelude.{length, Option, ℕ, ◌-◌, take}
use Rattle.std.specs.List.{AllByRecursion}
use Rattle.std.proofs.Common.{arith, sym, subst}
use Rattle.core_rules.specs.InScope.{IsAcyclic}
use Rattle.el_base.proofs.Throughout.{all-last}
use Rattle.term_pool.specs.Pool.{tree}
use Rattle.term_pool.specs.Growth.{Extends-trans, Extends-length}
use Rattle.core_terms.specs.Solutions.{AreIn-stays, solved_in, IsInstance}
use Rattle.index_unify.specs.Unified.{EquationStands}
use Rattle.index_unify.proofs.Ruled.{solved_larger, solved_smaller}
use Rattle.conversion.proofs.Slices.{unrolled_back, none_within}
use Rattle.index_unify.proofs.Begun.{Instances, instances-none, instances-more, instances-all}
use Rattle.index_unify.proofs.start.instances.Goals as goal

pub loop-rest-init : goal.loop-rest-init
loop-rest-init g c =
    let s = solved_in c.args.pool.now (g.S.Solutions.solution c.args.sol.now) in
    subst (Instances s c.args.pool.now c.args.pool.now c.args.equations.now c.args.equations.now) (sym c.new-all.ensures.items) (instances-none s c.args.pool.now c.args.equations.now c.requires.equations)

pub instantiate-requires-clause-t : goal.instantiate-requires-clause-t
instantiate-requires-clause-t g c =
    let left = c.loop-rest.rest.now in
    let e = c.equation-item.result in
    let b = all-last (EquationStands (length c.args.pool.now.trees)) (take (length left - 1) left) e (subst (AllByRecursion (EquationStands (length c.args.pool.now.trees))) (unrolled_back left e c.in-len1-up.len_at_least c.equation-item.is) c.loop-rest.invariant.below) in
    omega (arith, b.0, Extends-length c.loop-rest.invariant.extends)

pub instantiate-requires-clause-solutions : goal.instantiate-requires-clause-solutions
instantiate-requires-clause-solutions g c = AreIn-stays c.loop-rest.invariant.extends c.requires.solutions

pub instantiate-requires-clause-acyclic : goal.instantiate-requires-clause-acyclic
instantiate-requires-clause-acyclic g c = solved_larger c.loop-rest.invariant.extends (g.S.Solutions.solution c.args.sol.now) c.requires.solutions IsAcyclic c.requires.acyclic

pub instantiate-requires-in-len1-up-clause-t : goal.instantiate-requires-in-len1-up-clause-t
instantiate-requires-in-len1-up-clause-t g c =
    let left = c.loop-rest.rest.now in
    let e = c.equation-item.result in
    let b = all-last (EquationStands (length c.args.pool.now.trees)) (take (length left - 1) left) e (subst (AllByRecursion (EquationStands (length c.args.pool.now.trees))) (unrolled_back left e c.in-len1-up.len_at_least c.equation-item.is) c.loop-rest.invariant.below) in
    omega (arith, b.1, Extends-length c.loop-rest.invariant.extends, Extends-length c.instantiate.ensures.extends)

pub instantiate-requires-in-len1-up-clause-solutions : goal.instantiate-requires-in-len1-up-clause-solutions
instantiate-requires-in-len1-up-clause-solutions g c = AreIn-stays (Extends-trans c.loop-rest.invariant.extends c.instantiate.ensures.extends) c.requires.solutions

pub instantiate-requires-in-len1-up-clause-acyclic : goal.instantiate-requires-in-len1-up-clause-acyclic
instantiate-requires-in-len1-up-clause-acyclic g c = solved_larger (Extends-trans c.loop-rest.invariant.extends c.instantiate.ensures.extends) (g.S.Solutions.solution c.args.sol.now) c.requires.solutions IsAcyclic c.requires.acyclic

pub loop-rest-preserved : goal.loop-rest-preserved
loop-rest-preserved g c =
    let p = c.args.pool.now in
    let q = c.loop-rest.pool in
    let f : ℕ → Option ℕ = g.S.Solutions.solution c.args.sol.now in
    let s = solved_in p f in
    let left = c.loop-rest.rest.now in
    let e = c.equation-item.result in
    let i = c.loop-rest.invariant in
    let r = c.instantiate.new.pool in
    let v = c.instantiate-in-len1-up.new.pool in
    let qr = c.instantiate.ensures.extends in
    let h = subst (λ l. Instances s p q c.args.equations.now l c.loop-rest.all.items) (unrolled_back left e c.in-len1-up.len_at_least c.equation-item.is) i in
    let k = solved_smaller i.extends f c.requires.solutions (λ s. IsInstance r s (tree q e.left) c.in_ok-left.left) c.in_ok-left.ensures.is in
    let m = solved_smaller (Extends-trans i.extends qr) f c.requires.solutions (λ s. IsInstance v s (tree r e.right) c.in_ok-right.right) c.in_ok-right.ensures.is in
    instances-more s c.requires.acyclic p q r v c.args.equations.now (take (length left - 1) left) c.loop-rest.all.items c.push.new.self.items e c.in_ok-left.left c.in_ok-right.right h qr k c.instantiate-in-len1-up.ensures.extends m c.in_ok-push.ensures.items

pub returns-clause-below : goal.returns-clause-below
returns-clause-below g c = c.loop-rest.invariant.within

pub returns-clause-settled : goal.returns-clause-settled
returns-clause-settled g c = c.loop-rest.invariant.settled

pub returns-clause-is : goal.returns-clause-is
returns-clause-is g c =
    let s = solved_in c.args.pool.now (g.S.Solutions.solution c.args.sol.now) in
    instances-all s c.args.pool.now c.loop-rest.pool c.args.equations.now c.loop-rest.all.items
    (subst (λ l. Instances s c.args.pool.now c.loop-rest.pool c.args.equations.now l c.loop-rest.all.items) (none_within c.loop-rest.rest.now c.in_default.len_below) c.loop-rest.invariant)
