use Rattle.expr_parser.proofs.Verdict.{answers_of}
use Rattle.agda_grammar.specs.Grammar.{then, tree}
use Rattle.expr_parser.specs.Syntax.{whole_expr}
use Rattle.expr_parser.proofs.Complete.{size}
use Rattle.expr_parser.proofs.Whole.{expr_whole, expr_ends, expr_read}
use Rattle.expr_parser.proofs.one_expr.read_signs.Goals as goal

pub returns : goal.returns
returns c = rw c.new.ensures.value at (answers_of then (tree c.args.text.now) (whole_expr c.args.text.now) size (expr_whole c.args.text.now) (expr_ends c.args.text.now) (expr_read c.args.text.now) c.args.text.now c.args.turns _ _ _ c.whole_expr.ensures)
