-- The type of a family is in scope.
use Rattle.core_rules.specs.InScope.{any_meta, in_store, solved_at}
use Rattle.core_rules.proofs.Scope.Declared.{fam_type-in_scope}
use Rattle.core_rules.proofs.scope_laws.family_type_in_scope.Goals as goal

pub returns : goal.returns
returns c = (λ g d decl s e. fam_type-in_scope g any_meta s d decl e, λ counts. λ g d decl s e. fam_type-in_scope g (in_store counts) s d decl e, λ solved. λ g d decl s e. fam_type-in_scope g (solved_at solved) s d decl e)
