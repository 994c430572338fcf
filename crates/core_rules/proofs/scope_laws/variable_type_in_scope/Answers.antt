-- The type of a variable is in scope.
use Rattle.core_rules.specs.InScope.{any_meta, in_store, solved_at}
use Rattle.core_rules.proofs.Scope.Declared.{variable-in_scope}
use Rattle.core_rules.proofs.scope_laws.variable_type_in_scope.Goals as goal

pub returns : goal.returns
returns c = (λ g c i e h k. variable-in_scope g any_meta c i e h k, λ counts. λ g c i e h k. variable-in_scope g (in_store counts) c i e h k, λ solved. λ g c i e h k. variable-in_scope g (solved_at solved) c i e h k)
