-- Two terms have exactly one verdict.
use Rattle.core_rules.proofs.Heads.ExactlyOne.{exactly_one_verdict}
use Rattle.core_rules.proofs.bounded_laws.exactly_one_verdict.Goals as goal

pub returns : goal.returns
returns c = λ g s fuel depth t u a. exactly_one_verdict g s fuel depth t u a
