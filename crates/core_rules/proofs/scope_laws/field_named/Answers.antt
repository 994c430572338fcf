-- An id in scope names a field.
use Rattle.core_rules.proofs.Scope.Named.{is_field_at}
use Rattle.core_rules.proofs.scope_laws.field_named.Goals as goal

pub returns : goal.returns
returns c = λ g f l. is_field_at g f l
