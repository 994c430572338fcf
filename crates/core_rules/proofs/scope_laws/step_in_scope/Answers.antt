-- A step of unification keeps scope.
use Rattle.core_rules.specs.InScope.{any_meta, in_store, solved_at}
use Rattle.core_rules.proofs.Scope.Unified.{step-in_scope}
use Rattle.core_rules.proofs.scope_laws.step_in_scope.Goals as goal

pub returns : goal.returns
returns c = (λ g n s t step x h. step-in_scope g any_meta n s t step x h, λ counts. λ g n s t step x h. step-in_scope g (in_store counts) n s t step x h, λ solved. λ g n s t step x h. step-in_scope g (solved_at solved) n s t step x h)
