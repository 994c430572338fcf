-- A typed term is in scope.
use Rattle.core_rules.proofs.Typing.Scoped.{typing-in_scope}
use Rattle.core_rules.proofs.laws.typed_in_scope.Goals as goal

pub returns : goal.returns
returns c = λ g c t a h. typing-in_scope g h
