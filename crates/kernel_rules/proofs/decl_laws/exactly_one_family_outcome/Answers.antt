use Rattle.kernel_rules.proofs.OneDecl.{one-family}
use Rattle.kernel_rules.proofs.DeclOutcome.{family-outcome}
use Rattle.kernel_rules.proofs.decl_laws.exactly_one_family_outcome.Goals as goal

pub returns : goal.returns
returns c = λ g fuel depth d s. let r = family-outcome g fuel depth d s in (r.0, r.1, λ q y. one-family g fuel depth d q r.0 y r.1)
