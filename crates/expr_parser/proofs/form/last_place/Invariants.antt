use Rattle.std.proofs.Common.{◌≡◌, drop}
use Rattle.agda_grammar.specs.Trees.{last_place}
use Rattle.expr_parser.proofs.form.last_place.Given as goal

abbrev pub invariant-loop-arg : goal.invariant-loop-arg
invariant-loop-arg l = last_place l.last (drop l.arg-index l.args) ≡ last_place l.fn.place l.args
