-- What the code's count of nesting shows: its vector has the innermost bracket at its end.
use Rattle.std.specs.Prelude.{reverse}
use Rattle.agda_grammar.specs.Nesting.{Depth}
use Rattle.expr_parser.specs.declared.nesting.Depth.{Depth as Code}

abbrev pub depth_of : Code → Depth
depth_of d = record { now = d.next; outer = reverse d.outer.items }
