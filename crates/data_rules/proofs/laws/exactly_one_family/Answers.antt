use Rattle.data_rules.proofs.Exactly.{family-exactly}
use Rattle.data_rules.proofs.laws.exactly_one_family.Goals as goal

pub returns : goal.returns
returns c = λ g fuel depth e h. family-exactly g fuel depth e h
