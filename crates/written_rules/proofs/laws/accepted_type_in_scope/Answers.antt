use Rattle.written_rules.proofs.ScopedForms.{expr_good}
use Rattle.written_rules.proofs.laws.accepted_type_in_scope.Goals as goal

pub returns : goal.returns
returns c = λ g fuel depth n vs e t l sig v w. (expr_good g sig fuel depth e).1 n vs (t, l) v w
