use Rattle.core_rules.specs.InScope.{any_meta, in_store, solved_at}
use Rattle.lhs_rules.proofs.Scoped.Whole.{accepted-in}
use Rattle.lhs_rules.proofs.laws.accepted_left_in_scope.Goals as goal

pub returns : goal.returns
returns c = (λ g. accepted-in g any_meta, λ counts. λ g. accepted-in g (in_store counts), λ solved. λ g. accepted-in g (solved_at solved))
