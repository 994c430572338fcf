use Rattle.expr_parser.proofs.Verdict.{answers_of}
use Rattle.agda_grammar.specs.Declarations.{file_then, file_tree}
use Rattle.agda_parser.specs.DeclarationSyntax.{whole_file}
use Rattle.agda_parser.proofs.DeclarationRules.{whole_file_good}
use Rattle.agda_parser.proofs.DeclarationComplete.{file_size, whole_file_read}
use Rattle.agda_parser.proofs.Whole.{file_ends}
use Rattle.agda_parser.proofs.one_file.read_file.Goals as goal

pub returns : goal.returns
returns c = rw c.new.ensures.value at (answers_of file_then (file_tree c.args.text.now) (whole_file c.args.text.now) file_size (whole_file_good c.args.text.now) (file_ends c.args.text.now) (whole_file_read c.args.text.now) c.args.text.now c.args.turns _ _ _ c.whole_file.ensures)
