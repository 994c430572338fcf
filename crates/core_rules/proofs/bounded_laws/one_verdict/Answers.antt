-- Two terms have one verdict.
use Rattle.core_rules.proofs.Heads.OneVerdict.{conv_of_one}
use Rattle.core_rules.proofs.bounded_laws.one_verdict.Goals as goal

pub returns : goal.returns
returns c = λ g s fuel depth t u p q x y. conv_of_one g s fuel depth t u p q x y
