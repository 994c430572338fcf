-- The type of a constructor at its parameters is in scope.
use Rattle.core_rules.specs.InScope.{any_meta, in_store, solved_at}
use Rattle.core_rules.proofs.Scope.Declared.{constructed-in_scope}
use Rattle.core_rules.proofs.scope_laws.constructor_type_in_scope.Goals as goal

pub returns : goal.returns
returns c = (λ g k n ps is s h. constructed-in_scope g any_meta s k n ps is h, λ counts. λ g k n ps is s h. constructed-in_scope g (in_store counts) s k n ps is h, λ solved. λ g k n ps is s h. constructed-in_scope g (solved_at solved) s k n ps is h)
