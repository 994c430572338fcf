-- Verdicts do not see names.
use Rattle.core_rules.proofs.Names.Verdicts.{conv_of-named}
use Rattle.core_rules.proofs.name_laws.verdict_of_same_terms.Goals as goal

pub returns : goal.returns
returns c = λ g s fuel depth t u v w q e h k. conv_of-named g s fuel depth t u v w q e h k
