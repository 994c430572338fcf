-- A substituted term is in scope.
use Rattle.core_rules.specs.InScope.{any_meta, in_store, solved_at}
use Rattle.core_rules.proofs.Scope.Changed.{subst-in_scope}
use Rattle.core_rules.proofs.scope_laws.substitution_in_scope.Goals as goal

pub returns : goal.returns
returns c = (λ g n at t u l h k. subst-in_scope g any_meta n at t u l h k, λ counts. λ g n at t u l h k. subst-in_scope g (in_store counts) n at t u l h k, λ solved. λ g n at t u l h k. subst-in_scope g (solved_at solved) n at t u l h k)
