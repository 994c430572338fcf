-- The type of a field at the parameters and a term is in scope.
use Rattle.core_rules.specs.InScope.{any_meta, in_store, solved_at}
use Rattle.core_rules.proofs.Scope.Declared.{projected-in_scope}
use Rattle.core_rules.proofs.scope_laws.field_type_in_scope.Goals as goal

pub returns : goal.returns
returns c = (λ g f n ps t is s h k. projected-in_scope g any_meta s f n ps t is h k, λ counts. λ g f n ps t is s h k. projected-in_scope g (in_store counts) s f n ps t is h k, λ solved. λ g f n ps t is s h k. projected-in_scope g (solved_at solved) s f n ps t is h k)
