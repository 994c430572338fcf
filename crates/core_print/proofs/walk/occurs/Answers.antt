use Rattle.core_rules.specs.Term.{occurs}
use Rattle.term_pool.specs.Pool.{tree}
use Rattle.core_print.proofs.Walking.{found_now, not_yet}
use Rattle.core_print.proofs.walk.occurs.Goals as goal

pub returns-then-branch : goal.returns-then-branch
returns-then-branch c =
    found_now c.args.pool.now c.loop-turn.pending.items c.pop.new.self.items c.look.new.pending.items c.in-Some.part c.in_ok-look.field-0 (occurs 0 (tree c.args.pool.now c.args.t)) c.if-branch.true c.in-Some.ensures.items c.in_ok-look.ensures.found c.loop-turn.invariant.found

pub loop-turn-preserved : goal.loop-turn-preserved
loop-turn-preserved c = record {
  parts = c.in_ok-look.ensures.parts;
  found = not_yet c.args.pool.now c.loop-turn.pending.items c.pop.new.self.items c.look.new.pending.items c.in-Some.part c.in_ok-look.field-0 (occurs 0 (tree c.args.pool.now c.args.t)) c.if-branch.false c.in-Some.ensures.items c.in_ok-look.ensures.found c.loop-turn.invariant.found;
}
