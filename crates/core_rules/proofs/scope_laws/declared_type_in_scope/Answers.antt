-- A declared type is in scope.
use Rattle.core_rules.specs.InScope.{any_meta, in_store, solved_at}
use Rattle.core_rules.proofs.Scope.Declared.{declared-in_scope}
use Rattle.core_rules.proofs.scope_laws.declared_type_in_scope.Goals as goal

pub returns : goal.returns
returns c = (λ g f a s e. declared-in_scope g any_meta s f a e, λ counts. λ g f a s e. declared-in_scope g (in_store counts) s f a e, λ solved. λ g f a s e. declared-in_scope g (solved_at solved) s f a e)
