use Rattle.std.proofs.Common.{◌≡◌, ◌++◌, List}
use Rattle.agda_grammar.specs.Groups.{grouped, grouped_behind}
use Rattle.agda_grammar.specs.declared.entry.Entry.{Entry}
use Rattle.agda_parser.proofs.group.grouped.Given as goal

abbrev pub invariant-loop-entry : goal.invariant-loop-entry
invariant-loop-entry l = (es : List Entry) → grouped (l.yielded ++ es) ≡ l.done ++ grouped_behind l.last es
