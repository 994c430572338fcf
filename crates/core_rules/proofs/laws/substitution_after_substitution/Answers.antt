-- Two substitutions pass each other; the term of the second is put into that of the first.
use Rattle.core_rules.proofs.Substitution.Exchange.{subst-subst}
use Rattle.core_rules.proofs.laws.substitution_after_substitution.Goals as goal

pub returns : goal.returns
returns c = λ t at to u v. subst-subst t at to u v
