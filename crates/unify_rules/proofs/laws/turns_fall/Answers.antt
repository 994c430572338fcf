-- The number of turns that go on falls.
use Rattle.unify_rules.proofs.Ends.{turns_left, turn_falls}
use Rattle.unify_rules.proofs.laws.turns_fall.Goals as goal

pub returns : goal.returns
returns c = λ g fuel depth. (turns_left g fuel depth, turn_falls g fuel depth)
