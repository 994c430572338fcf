-- Scopes do not see names.
use Rattle.core_rules.specs.InScope.{any_meta, in_store, solved_at}
use Rattle.core_rules.proofs.Names.Alike.{alike_of, alike-in_scope}
use Rattle.core_rules.proofs.name_laws.scope_of_same_terms.Goals as goal

pub returns : goal.returns
returns c = (λ g n t u e h. alike-in_scope g any_meta n (alike_of t u e) h, λ counts. λ g n t u e h. alike-in_scope g (in_store counts) n (alike_of t u e) h, λ solved. λ g n t u e h. alike-in_scope g (solved_at solved) n (alike_of t u e) h)
