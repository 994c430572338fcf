use Rattle.kernel_rules.proofs.Families.{family-good}
use Rattle.kernel_rules.proofs.decl_laws.accepted_family_is_good.Goals as goal

pub returns : goal.returns
returns c = λ g fuel depth d r s h. family-good g fuel depth d r s h
