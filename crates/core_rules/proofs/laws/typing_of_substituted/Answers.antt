-- A typing is kept where a term of its type is put for the innermost variable.
use Rattle.core_rules.proofs.Typing.Substituted.{typing-subst}
use Rattle.core_rules.proofs.Typing.Closed.{have-shape}
use Rattle.core_rules.specs.InScope.{any_meta}
use Rattle.core_rules.proofs.laws.typing_of_substituted.Goals as goal

pub returns : goal.returns
returns c = λ g s c e t a u h k. typing-subst g any_meta s (have-shape g s) c e t a u h k
