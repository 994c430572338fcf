-- Conversion is kept by an environment, in the term and at each place of the environment.
use Rattle.core_rules.proofs.Typing.Substituted.{conv-under_same}
use Rattle.core_rules.proofs.Conversion.Shifted.{conv-values}
use Rattle.core_rules.specs.Conversion as C
use Rattle.core_rules.proofs.laws.conversion_of_environments.Goals as goal

pub returns : goal.returns
returns c = λ g f r s t u h k. C.then (conv-under_same g f r t u h) (conv-values r s u k)
