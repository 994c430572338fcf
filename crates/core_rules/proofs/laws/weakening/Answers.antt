-- A typing is kept where entries are put into the context.
use Rattle.core_rules.proofs.Typing.Weakened.{typing-inserted}
use Rattle.core_rules.specs.InScope.{any_meta}
use Rattle.core_rules.proofs.laws.weakening.Goals as goal

pub returns : goal.returns
returns c = λ g s inner new c t a h. typing-inserted g any_meta s inner new c t a h
