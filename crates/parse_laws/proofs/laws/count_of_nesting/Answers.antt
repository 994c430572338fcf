use Rattle.parse_laws.proofs.Limit.{shallow_counted, none_deep, greater}
use Rattle.parse_laws.proofs.laws.count_of_nesting.Goals as goal

pub returns-clause-counted : goal.returns-clause-counted
returns-clause-counted g c = λ nesting behind limit d i. shallow_counted nesting behind limit d i

pub returns-clause-within : goal.returns-clause-within
returns-clause-within g c = λ nesting behind limit d i. none_deep nesting behind limit d i

pub returns-clause-rises : goal.returns-clause-rises
returns-clause-rises g c = λ nesting behind low high le d i. greater nesting behind low high le d i
