use Rattle.std.proofs.Common.{◌≡◌, ◌≤◌, drop, map}
use Rattle.core_rules.specs.Mapped.{con_map}
use Rattle.term_pool.specs.Pool.{tree}
use Rattle.file_load.specs.Sizes.{cons_terms, most_nodes}
use Rattle.file_load.specs.Room.{room}
use Rattle.file_load.proofs.measure.behind_cons.Given as goal

abbrev pub invariant-loop-con : goal.invariant-loop-con
invariant-loop-con l = record {
  within : l.left ≤ most_nodes;
  left : room l.nodes (cons_terms (map (con_map (tree l.pool)) l.cons)) ≡ room l.left (cons_terms (map (con_map (tree l.pool)) (drop l.con-index l.cons)));
}
