-- The law at the call.
use Rattle.match_rules.proofs.Cover.Call.{plus_of_successor}
use Rattle.match_rules.proofs.laws.plus_of_successor.Goals as goal

pub returns : goal.returns
returns c = λ t u. plus_of_successor t u
