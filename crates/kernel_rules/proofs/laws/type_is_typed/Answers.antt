use Rattle.kernel_rules.proofs.Sound.{infer_typed, by-type}
use Rattle.kernel_rules.specs.TermReading.{InferOf}
use Rattle.kernel_rules.proofs.laws.type_is_typed.Goals as goal

pub returns : goal.returns
returns c = λ g fuel depth k t n i h. by-type g fuel depth i k t (InferOf g fuel depth k t) (infer_typed g fuel depth i k t) n h
