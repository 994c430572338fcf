use Rattle.std.proofs.Common.{◌≡◌, ◌<◌, length, subst, sym}
use Rattle.core_rules.specs.Term.{Term}
use Rattle.core_rules.specs.Signature.{Context}
use Rattle.kernel_rules.specs.Outcome.{Refuses}
use Rattle.lhs_rules.specs.Refusals.{UnifyStuck, at}
use Rattle.lhs_rules.specs.Rules.{refuted}
use Rattle.lhs_elab.specs.Asked.{UnifiedBelow}
use Rattle.term_pool.specs.Pool.{tree}
use Rattle.index_unify.specs.Unified.{context_in, equations_in}
use Rattle.lhs_elab.specs.Elaborator.{Comes, over}
use Rattle.lhs_elab.proofs.Growing.{context-stays, entries-larger}
use Rattle.lhs_elab.proofs.Unifying.{not-refuted, is-refuted, refuted-stuck, refuted-no_fuel, refuted-no_depth}
use Rattle.lhs_elab.proofs.elaborator.Elaborator.refuted.Goals as goal

pub returns-in-Solved-clause-is : goal.returns-in-Solved-clause-is
returns-in-Solved-clause-is g c = λ f h.
    let x = c.args.self.now in
    let d = context_in x.pool.now c.args.context in
    rw c.refused.ensures (not-refuted (over g.S.Solutions.solution f x) c.args.pos d (equations_in x.pool.now c.args.equations.now) c.ask.new.self.pool.now c.ask.result _ c.in-Solved.is (c.ask.ensures.is f h))

pub returns-in-Refuted-clause-is : goal.returns-in-Refuted-clause-is
returns-in-Refuted-clause-is g c = λ f h.
    let x = c.args.self.now in
    let d = context_in x.pool.now c.args.context in
    is-refuted (over g.S.Solutions.solution f x) c.args.pos d (equations_in x.pool.now c.args.equations.now) c.ask.new.self.pool.now c.ask.result _ c.in-Refuted.is (c.ask.ensures.is f h)

pub returns-in-Stuck-clause-is : goal.returns-in-Stuck-clause-is
returns-in-Stuck-clause-is g c = λ f h.
    let x = c.args.self.now in
    let p = x.pool.now in
    let q = c.ask.new.self.pool.now in
    let d = context_in p c.args.context in
    let es = equations_in p c.args.equations.now in
    let e = c.ask.ensures.grows.extends in
    let same : context_in q c.args.context ≡ d = context-stays p q e c.args.context c.requires.context in
    let b : (c.in-Stuck.left < length q.trees) × (c.in-Stuck.right < length q.trees) = subst (UnifiedBelow (length q.trees) (length c.args.context)) c.in-Stuck.is c.ask.ensures.below in
    rw c.refused-in-Stuck.ensures (
      entries-larger p q e c.args.context c.requires.context,
      b.0,
      b.1,
      subst (λ (k : Context Term). Comes (over g.S.Solutions.solution f x) (refuted c.args.pos d es) (Refuses (at c.args.pos (UnifyStuck k (tree q c.in-Stuck.left) (tree q c.in-Stuck.right))))) (sym same)
          (refuted-stuck (over g.S.Solutions.solution f x) c.args.pos d es q c.ask.result c.in-Stuck.left c.in-Stuck.right c.in-Stuck.is (c.ask.ensures.is f h)),
    )

pub returns-in-OutOfFuel-clause-is : goal.returns-in-OutOfFuel-clause-is
returns-in-OutOfFuel-clause-is g c = λ f h.
    let x = c.args.self.now in
    let d = context_in x.pool.now c.args.context in
    rw c.refused-in-OutOfFuel.ensures (refuted-no_fuel (over g.S.Solutions.solution f x) c.args.pos d (equations_in x.pool.now c.args.equations.now) c.ask.new.self.pool.now c.ask.result c.in-OutOfFuel.is (c.ask.ensures.is f h))

pub returns-in-OutOfDepth-clause-is : goal.returns-in-OutOfDepth-clause-is
returns-in-OutOfDepth-clause-is g c = λ f h.
    let x = c.args.self.now in
    let d = context_in x.pool.now c.args.context in
    rw c.refused-in-OutOfDepth.ensures (refuted-no_depth (over g.S.Solutions.solution f x) c.args.pos d (equations_in x.pool.now c.args.equations.now) c.ask.new.self.pool.now c.ask.result c.in-OutOfDepth.is (c.ask.ensures.is f h))
