use Rattle.std.proofs.Common.{◌≡◌, ◌≤◌, drop}
use Rattle.core_rules.specs.Mapped.{telescope_map}
use Rattle.term_pool.specs.Pool.{tree}
use Rattle.file_load.specs.Sizes.{most_nodes, types_of}
use Rattle.file_load.specs.Room.{room}
use Rattle.file_load.proofs.measure.behind_entries.Given as goal

abbrev pub invariant-loop-entry : goal.invariant-loop-entry
invariant-loop-entry l = record {
  within : l.left ≤ most_nodes;
  left : room l.nodes (types_of (telescope_map (tree l.pool) l.entries)) ≡ room l.left (types_of (telescope_map (tree l.pool) (drop l.entry-index l.entries)));
}
