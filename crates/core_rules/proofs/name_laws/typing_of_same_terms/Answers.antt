-- Typing does not see names.
use Rattle.core_rules.proofs.Names.Typed.{typing-named}
use Rattle.core_rules.proofs.name_laws.typing_of_same_terms.Goals as goal

pub returns : goal.returns
returns c = λ g x d t u a b m e p h. typing-named g x d t u a b m e p h
