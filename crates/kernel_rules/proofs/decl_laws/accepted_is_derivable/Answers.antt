use Rattle.core_rules.specs.UnifierAnswers.{answers}
use Rattle.kernel_rules.proofs.Decls.{decl-derivable}
use Rattle.kernel_rules.proofs.decl_laws.accepted_is_derivable.Goals as goal

pub returns : goal.returns
returns c = λ u g fuel depth d x r s h. decl-derivable (λ g. answers (u g)) g fuel depth x r d s h
