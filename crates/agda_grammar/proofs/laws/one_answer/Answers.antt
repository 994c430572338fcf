use Rattle.agda_grammar.specs.Grammar.{then, tree}
use Rattle.agda_grammar.specs.Declarations.{file_then, file_tree}
use Rattle.agda_grammar.proofs.OneAnswer.{one_answer}
use Rattle.agda_grammar.proofs.laws.one_answer.Goals as goal

pub returns-clause-expressions : goal.returns-clause-expressions
returns-clause-expressions c = λ text i. one_answer then text i (tree text)

pub returns-clause-files : goal.returns-clause-files
returns-clause-files c = λ text i. one_answer file_then text i (file_tree text)
