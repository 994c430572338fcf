use Rattle.std.proofs.Common.{◌≡◌, ◌≤◌, ◌+◌}
use Rattle.core_rules.specs.Term.{size}
use Rattle.term_pool.specs.Pool.{tree}
use Rattle.core_print.specs.Walks.{AreIn, sizes}
use Rattle.core_print.proofs.walk.is_long.Given as goal

abbrev pub invariant-loop-turn : goal.invariant-loop-turn
invariant-loop-turn l = record {
  parts : AreIn l.pool l.pending.items;
  few : l.nodes ≤ 10000;
  count : l.nodes + sizes l.pool l.pending.items ≡ size (tree l.pool l.fn.t);
}
