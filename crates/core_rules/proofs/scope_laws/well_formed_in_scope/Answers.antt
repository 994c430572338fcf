-- A well formed context is in scope.
use Rattle.core_rules.proofs.Scope.Declared.{formed-in_scope}
use Rattle.core_rules.proofs.scope_laws.well_formed_in_scope.Goals as goal

pub returns : goal.returns
returns c = λ g x w. formed-in_scope g x w
