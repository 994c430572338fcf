-- A metavariable has no type.
use Rattle.core_rules.proofs.Typing.Inverted.{typing-meta}
use Rattle.core_rules.proofs.laws.no_type_of_metavariable.Goals as goal

pub returns : goal.returns
returns c = λ g c m ts a h. typing-meta g c m ts a h
