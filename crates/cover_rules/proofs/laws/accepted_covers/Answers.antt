-- It follows them.
use Rattle.core_rules.specs.UnifierAnswers.{answers}
use Rattle.cover_rules.proofs.Accepted.{cover_sound}
use Rattle.cover_rules.proofs.laws.accepted_covers.Goals as goal

pub returns : goal.returns
returns c = λ g fuel u is f qs n T x. cover_sound g fuel (answers u) is f qs x
