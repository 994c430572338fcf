use Rattle.agda_grammar.specs.Grammar.{then}
use Rattle.agda_grammar.specs.Declarations.{file_then}
use Rattle.agda_grammar.proofs.OneAnswer.{refused_underivable}
use Rattle.agda_grammar.proofs.laws.refused_is_underivable.Goals as goal

pub returns-clause-expressions : goal.returns-clause-expressions
returns-clause-expressions c = refused_underivable then

pub returns-clause-files : goal.returns-clause-files
returns-clause-files c = refused_underivable file_then
