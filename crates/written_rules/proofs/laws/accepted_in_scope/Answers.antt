use Rattle.written_rules.proofs.ScopedForms.{expr_good}
use Rattle.written_rules.proofs.laws.accepted_in_scope.Goals as goal

pub returns : goal.returns
returns c = λ g fuel depth n vs e a t sig v h w. (expr_good g sig fuel depth e).0 n vs a t v h w
