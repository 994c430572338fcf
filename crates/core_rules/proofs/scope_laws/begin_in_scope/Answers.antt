-- Unification begins in scope.
use Rattle.core_rules.specs.InScope.{any_meta, in_store, solved_at}
use Rattle.core_rules.proofs.Scope.Unified.{begin-in_scope}
use Rattle.core_rules.proofs.scope_laws.begin_in_scope.Goals as goal

pub returns : goal.returns
returns c = (λ g x es h k. begin-in_scope g any_meta x es h k, λ counts. λ g x es h k. begin-in_scope g (in_store counts) x es h k, λ solved. λ g x es h k. begin-in_scope g (solved_at solved) x es h k)
