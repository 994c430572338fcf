use Rattle.std.proofs.Common.{◌≡◌, ◌≤◌, drop, map}
use Rattle.term_pool.specs.Pool.{tree}
use Rattle.file_load.specs.Sizes.{most_nodes}
use Rattle.file_load.specs.Room.{room}
use Rattle.file_load.proofs.measure.behind_terms.Given as goal

abbrev pub invariant-loop-term : goal.invariant-loop-term
invariant-loop-term l = record {
  within : l.left ≤ most_nodes;
  left : room l.nodes (map (tree l.pool) l.terms) ≡ room l.left (map (tree l.pool) (drop l.term-index l.terms));
}
