use Rattle.data_rules.proofs.Scoped.{family-accepted}
use Rattle.data_rules.proofs.laws.accepted_family_in_scope.Goals as goal

pub returns : goal.returns
returns c = λ g fuel depth e d sig w. family-accepted g sig fuel depth e d w
