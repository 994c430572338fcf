use Rattle.agda_grammar.proofs.FileDepths.{file_counted, file_derivation_counted}
use Rattle.agda_grammar.proofs.laws.nesting_of_files.Goals as goal

pub returns-clause-each : goal.returns-clause-each
returns-clause-each c = file_counted

pub returns-clause-first_too_deep : goal.returns-clause-first_too_deep
returns-clause-first_too_deep c = file_derivation_counted
