use Rattle.std.proofs.Common.{◌≡◌, drop}
use Rattle.agda_grammar.specs.Reading.{place_at, end_pos}
use Rattle.expr_parser.proofs.refuse.place_at.Given as goal

abbrev pub invariant-loop-sign : goal.invariant-loop-sign
invariant-loop-sign l = place_at (end_pos l.text) (drop l.sign-index l.signs) ≡ place_at (end_pos l.text) l.signs
