use Rattle.std.proofs.Common.{◌≡◌}
use Rattle.core_rules.specs.Term.{occurs}
use Rattle.term_pool.specs.Pool.{tree}
use Rattle.core_print.specs.Walks.{AreIn, occurs_in_parts}
use Rattle.core_print.proofs.walk.occurs.Given as goal

abbrev pub invariant-loop-turn : goal.invariant-loop-turn
invariant-loop-turn l = record {
  parts : AreIn l.pool l.pending.items;
  found : occurs_in_parts l.pool l.pending.items ≡ occurs 0 (tree l.pool l.fn.t);
}
