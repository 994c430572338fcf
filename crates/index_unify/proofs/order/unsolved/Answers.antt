use Rattle.std.specs.Prelude.{◌≡◌}
use Rattle.std.proofs.Common.{arith, subst, ◌∙◌}
use Rattle.unify_rules.specs.Joined.{unsolved, value_of}
use Rattle.term_pool.specs.Pool.{tree}
use Rattle.index_unify.specs.Order.{waiting}
use Rattle.index_unify.specs.State.{solutions_of}
use Rattle.index_unify.proofs.Waits.{none, none_from, unsolved_next, pushed_length}
use Rattle.index_unify.proofs.order.unsolved.Goals as goal

pub loop-var-preserved : goal.loop-var-preserved
loop-var-preserved c =
    let i = c.loop-var.invariant in
    record {
      count = pushed_length c.loop-var.waits.items c.push.new.self.items c.is_none.result c.loop-var.var c.in_ok-push.ensures.items i.count;
      is = λ p. (
          let b : c.is_none.result ≡ none (value_of (solutions_of p c.args.solutions.now) c.loop-var.var) = none_from (tree p) c.value_of.result c.is_none.result (value_of (solutions_of p c.args.solutions.now) c.loop-var.var) c.is_none.ensures (c.value_of.ensures.is p) in
          unsolved_next (solutions_of p c.args.solutions.now) c.loop-var.waits.items c.push.new.self.items c.loop-var.var c.is_none.result i.count c.in_ok-push.ensures.items b (i.is p)
          );
    }

pub returns-clause-count : goal.returns-clause-count
returns-clause-count c = let e : c.loop-var.var ≡ c.args.count = omega arith in c.loop-var.invariant.count ∙ e

pub returns-clause-is : goal.returns-clause-is
returns-clause-is c = λ p.
    let e : c.loop-var.var ≡ c.args.count = omega arith in
    subst (λ n. waiting c.loop-var.waits.items n ≡ unsolved (solutions_of p c.args.solutions.now) n) e (c.loop-var.invariant.is p)
