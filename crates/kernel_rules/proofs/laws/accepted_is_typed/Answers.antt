use Rattle.kernel_rules.proofs.Sound.{infer_typed}
use Rattle.kernel_rules.proofs.laws.accepted_is_typed.Goals as goal

pub returns : goal.returns
returns c = λ g fuel depth k t a i h. infer_typed g fuel depth i k t a h
