-- More depth gives the same verdict.
use Rattle.core_rules.proofs.Heads.OneVerdict.{conv_of_deeper}
use Rattle.core_rules.proofs.bounded_laws.more_depth.Goals as goal

pub returns : goal.returns
returns c = λ g s fuel depth deeper t u q h n x. conv_of_deeper g s fuel depth deeper t u q h n x
