use Rattle.kernel_rules.proofs.OneTerm.{one_infer}
use Rattle.kernel_rules.proofs.laws.one_outcome.Goals as goal

pub returns : goal.returns
returns c = λ g fuel depth k t r q x y. one_infer g fuel depth k t r q x y
