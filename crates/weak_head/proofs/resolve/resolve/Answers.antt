use Rattle.std.proofs.Common.{◌≡◌, ℕ, ◌<◌, length, map, Option, Some, sym, ap, ◌∙◌, subst, arith}
use Rattle.std.specs.List.{AllByRecursion}
use Rattle.core_rules.specs.Term.{Meta}
use Rattle.core_rules.specs.Substitution.{under}
use Rattle.term_pool.specs.Pool.{tree, args}
use Rattle.term_pool.specs.Growth.{Extends-refl, Extends-trans, Extends-length}
use Rattle.weak_head.specs.Pending.{here}
use Rattle.weak_head.proofs.Resolving.{comes_next, falls_next}
use Rattle.weak_head.proofs.resolve.resolve.Goals as goal

pub loop-meta-init : goal.loop-meta-init
loop-meta-init g c = record { extends = Extends-refl c.args.pool.now; within = c.requires.t; comes = here }

pub under-requires-clause-t : goal.under-requires-clause-t
under-requires-clause-t g c =
    let h = c.requires.solutions.within c.in-Meta.meta c.in-Some.solution (sym c.in-Some.ensures) in
    omega (arith, h, Extends-length c.loop-meta.invariant.extends)

pub under-requires-clause-env : goal.under-requires-clause-env
under-requires-clause-env g c = subst (AllByRecursion (λ i. i < length c.loop-meta.pool.trees)) (sym c.deref.ensures.value) c.in_ok-env.ensures.within

pub loop-meta-smaller : goal.loop-meta-smaller
loop-meta-smaller g c =
    let p = c.args.pool.now in
    let q = c.loop-meta.pool in
    let r = c.under.new.pool in
    let f : ℕ → Option ℕ = g.S.Solutions.solution c.args.sol.now in
    let i = c.in-Some.solution in
    let e : f c.in-Meta.meta ≡ Some i = sym c.in-Some.ensures in
    let is : tree q c.loop-meta.at ≡ Meta c.in-Meta.meta (args q c.in-Meta.args) = c.in-Meta.ensures.is in
    let made : tree r c.in_ok-at.at ≡ under (map (tree q) c.in_ok-env.env.items) (tree q i) = c.in_ok-at.ensures.is.is ∙ ap (λ l. under (map (tree q) l) (tree q i)) c.deref.ensures.value in
    falls_next p q r f c.loop-meta.at c.in-Meta.meta c.in-Meta.args i c.in_ok-at.at c.in_ok-env.env.items c.loop-meta.invariant.extends c.requires.solutions e is c.in_ok-env.ensures.is made c.requires.acyclic

pub loop-meta-preserved : goal.loop-meta-preserved
loop-meta-preserved g c =
    let p = c.args.pool.now in
    let q = c.loop-meta.pool in
    let r = c.under.new.pool in
    let f : ℕ → Option ℕ = g.S.Solutions.solution c.args.sol.now in
    let i = c.in-Some.solution in
    let e : f c.in-Meta.meta ≡ Some i = sym c.in-Some.ensures in
    let is : tree q c.loop-meta.at ≡ Meta c.in-Meta.meta (args q c.in-Meta.args) = c.in-Meta.ensures.is in
    let made : tree r c.in_ok-at.at ≡ under (map (tree q) c.in_ok-env.env.items) (tree q i) = c.in_ok-at.ensures.is.is ∙ ap (λ l. under (map (tree q) l) (tree q i)) c.deref.ensures.value in
    record {
      extends = Extends-trans c.loop-meta.invariant.extends c.in_ok-at.ensures.extends;
      within = c.in_ok-at.ensures.is.within;
      comes = comes_next p q r f c.loop-meta.at c.in-Meta.meta c.in-Meta.args i c.in_ok-at.at c.in_ok-env.env.items c.loop-meta.invariant.extends c.requires.solutions e is c.in_ok-env.ensures.is made (tree p c.args.t) c.loop-meta.invariant.comes;
    }
