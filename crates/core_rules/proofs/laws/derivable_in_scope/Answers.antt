-- A derivable signature is in scope.
use Rattle.core_rules.proofs.Trees.Scoped.{derivable-in_scope}
use Rattle.core_rules.proofs.laws.derivable_in_scope.Goals as goal

pub returns : goal.returns
returns c = λ g r. derivable-in_scope g r
