-- A shifted term is in scope.
use Rattle.core_rules.specs.InScope.{any_meta, in_store, solved_at}
use Rattle.core_rules.proofs.Scope.Changed.{shift-in_scope}
use Rattle.core_rules.proofs.scope_laws.shift_in_scope.Goals as goal

pub returns : goal.returns
returns c = (λ g n from by t h. shift-in_scope g any_meta n from by t h, λ counts. λ g n from by t h. shift-in_scope g (in_store counts) n from by t h, λ solved. λ g n from by t h. shift-in_scope g (solved_at solved) n from by t h)
