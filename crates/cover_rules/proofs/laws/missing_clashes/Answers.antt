-- A left side that is reached.
use Rattle.core_rules.specs.UnifierAnswers.{answers}
use Rattle.cover_rules.proofs.Missed.{missing}
use Rattle.cover_rules.proofs.laws.missing_clashes.Goals as goal

pub returns : goal.returns
returns c = λ g s fuel u f qs n l x. missing g s fuel (answers u) f qs n l x
