-- A head form is in scope.
use Rattle.core_rules.specs.InScope.{any_meta, in_store, solved_at}
use Rattle.core_rules.proofs.Scope.HeadForms.{heads-in_scope}
use Rattle.core_rules.proofs.scope_laws.head_form_in_scope.Goals as goal

pub returns : goal.returns
returns c = (λ g s n t es w k sig sol h e d. heads-in_scope g any_meta n s sig sol d h e, λ counts. λ g s n t es w k sig sol h e d. heads-in_scope g (in_store counts) n s sig sol d h e, λ solved. λ g s n t es w k sig sol h e d. heads-in_scope g (solved_at solved) n s sig sol d h e)
