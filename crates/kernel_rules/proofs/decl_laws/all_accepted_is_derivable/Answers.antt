use Rattle.std.proofs.Common.{subst, arith}
use Rattle.std.specs.Prelude.{length}
use Rattle.std.proofs.lemmas.List.{take_all}
use Rattle.core_rules.specs.Derivable.{Derivable}
use Rattle.core_rules.specs.UnifierAnswers.{answers}
use Rattle.kernel_rules.proofs.Decls.{all-derivable}
use Rattle.kernel_rules.proofs.decl_laws.all_accepted_is_derivable.Goals as goal

pub returns : goal.returns
returns c = λ u g fuel depth x h. subst Derivable (take_all (length g) g (omega arith)) (all-derivable (λ g. answers (u g)) fuel depth x g h (length g))
