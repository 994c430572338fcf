-- A change that leaves each variable as it is leaves each term as it is.
use Rattle.core_rules.proofs.Substitution.Traversal.{over_id}
use Rattle.core_rules.proofs.laws.traversal_identity.Goals as goal

pub returns : goal.returns
returns c = λ f e d t. over_id f e d t
