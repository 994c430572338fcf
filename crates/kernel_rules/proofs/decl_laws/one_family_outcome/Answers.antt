use Rattle.kernel_rules.proofs.OneDecl.{one-family}
use Rattle.kernel_rules.proofs.decl_laws.one_family_outcome.Goals as goal

pub returns : goal.returns
returns c = λ g fuel depth d r q x y. one-family g fuel depth d r q x y
