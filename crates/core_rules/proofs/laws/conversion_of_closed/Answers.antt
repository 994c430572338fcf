-- Conversion is kept where the last function gets its clauses and tree.
use Rattle.core_rules.proofs.Signature.Closing.{conv-closing, closes}
use Rattle.core_rules.proofs.laws.conversion_of_closed.Goals as goal

pub returns : goal.returns
returns c = λ g x a qs T t u k. conv-closing _ _ (closes g x a qs T) k
