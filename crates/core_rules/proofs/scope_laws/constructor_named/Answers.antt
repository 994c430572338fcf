-- An id in scope names a constructor.
use Rattle.core_rules.proofs.Scope.Named.{is_con_at}
use Rattle.core_rules.proofs.scope_laws.constructor_named.Goals as goal

pub returns : goal.returns
returns c = λ g k n e. is_con_at g k n e
