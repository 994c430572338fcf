-- A term under an environment is in scope.
use Rattle.core_rules.specs.InScope.{any_meta, in_store, solved_at}
use Rattle.core_rules.proofs.Scope.Changed.{under-in_scope}
use Rattle.core_rules.proofs.scope_laws.environment_in_scope.Goals as goal

pub returns : goal.returns
returns c = (λ g n k r t h j. under-in_scope g any_meta n k r t h j, λ counts. λ g n k r t h j. under-in_scope g (in_store counts) n k r t h j, λ solved. λ g n k r t h j. under-in_scope g (solved_at solved) n k r t h j)
