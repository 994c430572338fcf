-- The law at the call.
use Rattle.match_rules.proofs.Cover.Vectors.{first_of_cons}
use Rattle.match_rules.proofs.laws.first_of_cons.Goals as goal

pub returns : goal.returns
returns c = λ ps n x xs. first_of_cons ps n x xs
