use Rattle.std.proofs.Common.{sym, lt-ltb, arith}
use Rattle.core_rules.specs.Term.{size}
use Rattle.term_pool.specs.Pool.{tree}
use Rattle.core_print.proofs.Walking.{counted}
use Rattle.core_print.proofs.walk.is_long.Goals as goal

pub returns-then-nodes-gt-MOST_PRINTED : goal.returns-then-nodes-gt-MOST_PRINTED
returns-then-nodes-gt-MOST_PRINTED c =
    let k = size (tree c.args.pool.now c.args.t) in
    sym (lt-ltb 10000 k (omega (arith, c.if-nodes-gt-MOST_PRINTED.true, counted c.args.pool.now c.loop-turn.pending.items c.pop.new.self.items c.count.new.pending.items c.in-Some.part c.loop-turn.nodes c.in_ok-nodes.field-0 k c.in-Some.ensures.items c.in_ok-nodes.ensures.count c.loop-turn.invariant.count)))

pub loop-turn-preserved : goal.loop-turn-preserved
loop-turn-preserved c = record {
  parts = c.in_ok-nodes.ensures.parts;
  few = omega (arith, c.if-nodes-gt-MOST_PRINTED.false);
  count = counted c.args.pool.now c.loop-turn.pending.items c.pop.new.self.items c.count.new.pending.items c.in-Some.part c.loop-turn.nodes c.in_ok-nodes.field-0 (size (tree c.args.pool.now c.args.t)) c.in-Some.ensures.items c.in_ok-nodes.ensures.count c.loop-turn.invariant.count;
}
