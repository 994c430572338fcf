-- The context of a constructor at a split and its index equations are in scope.
use Rattle.core_rules.specs.InScope.{any_meta, in_store, solved_at}
use Rattle.core_rules.proofs.Scope.Opened.{split-in_scope}
use Rattle.core_rules.proofs.scope_laws.constructor_context_in_scope.Goals as goal

pub returns : goal.returns
returns c = (λ g s k con e h i. split-in_scope g any_meta s k con e h i, λ counts. λ g s k con e h i. split-in_scope g (in_store counts) s k con e h i, λ solved. λ g s k con e h i. split-in_scope g (solved_at solved) s k con e h i)
