-- A term with solutions replaced is in scope.
use Rattle.core_rules.specs.InScope.{any_meta, in_store, solved_at}
use Rattle.core_rules.proofs.Scope.Changed.{replace-in_scope}
use Rattle.core_rules.proofs.scope_laws.replaced_in_scope.Goals as goal

pub returns : goal.returns
returns c = (λ g s n t k h. replace-in_scope g any_meta s k n t h, λ counts. λ g s n t k h. replace-in_scope g (in_store counts) s k n t h, λ solved. λ g s n t k h. replace-in_scope g (solved_at solved) s k n t h)
