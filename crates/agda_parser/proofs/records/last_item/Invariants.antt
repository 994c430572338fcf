use Rattle.std.proofs.Common.{◌≡◌, drop}
use Rattle.agda_grammar.specs.Declarations.{last_item}
use Rattle.agda_parser.proofs.records.last_item.Given as goal

abbrev pub invariant-loop-item : goal.invariant-loop-item
invariant-loop-item l = last_item l.last (drop l.item-index l.items) ≡ last_item l.fn.place l.items
