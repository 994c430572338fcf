use Rattle.core_rules.specs.UnifierAnswers.{answers}
use Rattle.kernel_rules.proofs.Decls.{decl-good}
use Rattle.kernel_rules.proofs.decl_laws.accepted_is_good.Goals as goal

pub returns : goal.returns
returns c = λ u g fuel depth d x r s h. decl-good (λ g. answers (u g)) g fuel depth x r d s h
