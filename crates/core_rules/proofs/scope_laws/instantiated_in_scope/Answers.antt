-- A term with solutions put in is in scope.
use Rattle.core_rules.specs.InScope.{any_meta, in_store, solved_at}
use Rattle.core_rules.proofs.Scope.Changed.{instantiate-in_scope}
use Rattle.core_rules.proofs.scope_laws.instantiated_in_scope.Goals as goal

pub returns : goal.returns
returns c = (λ g s deep n t k h. instantiate-in_scope g any_meta s k deep n t h, λ counts. λ g s deep n t k h. instantiate-in_scope g (in_store counts) s k deep n t h, λ solved. λ g s deep n t k h. instantiate-in_scope g (solved_at solved) s k deep n t h)
