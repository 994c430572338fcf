-- Two terms have a verdict.
use Rattle.core_rules.proofs.Heads.Needed.{verdict_stands}
use Rattle.core_rules.proofs.bounded_laws.verdict_stands.Goals as goal

pub returns : goal.returns
returns c = λ g s fuel depth t u a. verdict_stands g s fuel depth t u a
