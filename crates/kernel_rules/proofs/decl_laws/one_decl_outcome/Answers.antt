use Rattle.std.proofs.Common.{◌∙◌, sym}
use Rattle.core_rules.specs.UnifierAnswers.{answers}
use Rattle.kernel_rules.proofs.OneDecl.{one-decl}
use Rattle.kernel_rules.proofs.decl_laws.one_decl_outcome.Goals as goal

pub returns : goal.returns
returns c = λ u g fuel depth d r q x y. one-decl (λ g. answers (u g)) g fuel depth (λ h c es v w d e. d ∙ sym e) d r q x y
