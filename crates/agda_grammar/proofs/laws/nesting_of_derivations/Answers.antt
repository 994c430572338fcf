use Rattle.agda_grammar.proofs.Depths.{whole_counted, derivation_counted}
use Rattle.agda_grammar.proofs.laws.nesting_of_derivations.Goals as goal

pub returns-clause-each : goal.returns-clause-each
returns-clause-each c = whole_counted

pub returns-clause-first_too_deep : goal.returns-clause-first_too_deep
returns-clause-first_too_deep c = derivation_counted
