use Rattle.std.specs.Prelude.{◌≡◌, ◌<◌, ◌+◌, length, Option, ℕ, ◌-◌, take}
use Rattle.std.proofs.Common.{rules, arith, sym, ap, subst}
use Rattle.core_rules.specs.InScope.{IsAcyclic}
use Rattle.core_rules.specs.Substitution.{shift}
use Rattle.core_rules.specs.Signature.{Entry}
use Rattle.core_rules.specs.Mapped.{AllEntries}
use Rattle.el_base.proofs.Throughout.{all-last}
use Rattle.term_pool.specs.Pool.{StandsFor, tree}
use Rattle.term_pool.specs.Growth.{Extends-length}
use Rattle.core_terms.specs.Solutions.{AreIn-stays, solved_in, IsInstance}
use Rattle.index_unify.proofs.Ruled.{solved_larger, solved_smaller}
use Rattle.conversion.proofs.Slices.{unrolled_back, none_within}
use Rattle.index_unify.proofs.Begun.{Types, types-none, types-more, types-all}
use Rattle.index_unify.proofs.start.whole_types.Goals as goal

pub loop-left-init : goal.loop-left-init
loop-left-init g c =
    subst (Types (solved_in c.args.pool.now (g.S.Solutions.solution c.args.sol.now)) c.args.pool.now c.args.pool.now c.args.entries.now c.args.entries.now 0) (sym c.new-types.ensures.items)
    (types-none (solved_in c.args.pool.now (g.S.Solutions.solution c.args.sol.now)) c.args.pool.now c.args.entries.now c.requires.entries)

pub instantiate-requires-clause-t : goal.instantiate-requires-clause-t
instantiate-requires-clause-t g c =
    let left = c.loop-left.left.now in
    let e = c.entry-item.result in
    let b = all-last (λ e. e.ty < length c.args.pool.now.trees) (take (length left - 1) left) e (subst (AllEntries (λ i. i < length c.args.pool.now.trees)) (unrolled_back left e c.in-len1-up.len_at_least c.entry-item.is) c.loop-left.invariant.below) in
    let z : c.entry.inside.ty ≡ e.ty = omega (arith, ap (λ (x : Entry ℕ). x.ty) c.entry.view_is) in
    omega (arith, b, z, Extends-length c.loop-left.invariant.extends)

pub instantiate-requires-clause-solutions : goal.instantiate-requires-clause-solutions
instantiate-requires-clause-solutions g c = AreIn-stays c.loop-left.invariant.extends c.requires.solutions

pub instantiate-requires-clause-acyclic : goal.instantiate-requires-clause-acyclic
instantiate-requires-clause-acyclic g c = solved_larger c.loop-left.invariant.extends (g.S.Solutions.solution c.args.sol.now) c.requires.solutions IsAcyclic c.requires.acyclic

pub loop-left-preserved : goal.loop-left-preserved
loop-left-preserved g c =
    let p = c.args.pool.now in
    let q = c.loop-left.pool in
    let f : ℕ → Option ℕ = g.S.Solutions.solution c.args.sol.now in
    let s = solved_in p f in
    let left = c.loop-left.left.now in
    let e = c.entry-item.result in
    let i = c.loop-left.invariant in
    let n = c.loop-left.inside in
    let r = c.instantiate.new.pool in
    let v = c.shift.new.pool in
    let by : c.in-Some.by ≡ n + 1 = search rules in
    let h = subst (λ l. Types s p q c.args.entries.now l n c.loop-left.types.items) (unrolled_back left e c.in-len1-up.len_at_least c.entry-item.is) i in
    let z : c.entry.inside.ty ≡ e.ty = omega (arith, ap (λ (x : Entry ℕ). x.ty) c.entry.view_is) in
    let k = subst (λ a. IsInstance r s (tree q a) c.in_ok-ty.ty) z (solved_smaller i.extends f c.requires.solutions (λ s. IsInstance r s (tree q c.entry.inside.ty) c.in_ok-ty.ty) c.in_ok-ty.ensures.is) in
    let w = subst (λ m. StandsFor v c.in_ok-whole.whole (shift (tree r c.in_ok-ty.ty) 0 m)) by c.in_ok-whole.ensures.is in
    subst (λ m. Types s p v c.args.entries.now (take (length left - 1) left) m c.push.new.self.items) (sym by)
    (types-more s p q r v c.args.entries.now (take (length left - 1) left) e n c.in_ok-ty.ty c.in_ok-whole.whole c.loop-left.types.items c.push.new.self.items h c.instantiate.ensures.extends k c.shift.ensures.extends w c.in_ok-push.ensures.items)

pub returns-clause-below : goal.returns-clause-below
returns-clause-below g c = c.loop-left.invariant.within

pub returns-clause-is : goal.returns-clause-is
returns-clause-is g c =
    let s = solved_in c.args.pool.now (g.S.Solutions.solution c.args.sol.now) in
    types-all s c.args.pool.now c.loop-left.pool c.args.entries.now c.loop-left.inside c.loop-left.types.items
    (subst (λ l. Types s c.args.pool.now c.loop-left.pool c.args.entries.now l c.loop-left.inside c.loop-left.types.items) (none_within c.loop-left.left.now c.in_default.len_below) c.loop-left.invariant)
