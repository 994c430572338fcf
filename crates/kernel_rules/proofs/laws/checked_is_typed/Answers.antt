use Rattle.kernel_rules.proofs.Sound.{infer_typed, by-check}
use Rattle.kernel_rules.specs.TermReading.{InferOf}
use Rattle.kernel_rules.proofs.laws.checked_is_typed.Goals as goal

pub returns : goal.returns
returns c = λ g fuel depth k t a i h. by-check g fuel depth i k t (InferOf g fuel depth k t) (infer_typed g fuel depth i k t) a h
