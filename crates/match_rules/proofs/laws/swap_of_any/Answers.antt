-- The law at the call.
use Rattle.match_rules.proofs.Cover.Pairs.{swap_of_any}
use Rattle.match_rules.proofs.laws.swap_of_any.Goals as goal

pub returns : goal.returns
returns c = λ a b p. swap_of_any a b p
