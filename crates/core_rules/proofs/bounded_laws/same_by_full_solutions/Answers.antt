-- Full solutions tell whether terms are the same.
use Rattle.core_rules.proofs.Heads.Same.{same_replaced, are_same_by}
use Rattle.core_rules.proofs.bounded_laws.same_by_full_solutions.Goals as goal

pub returns : goal.returns
returns c = λ s f t u x a. (same_replaced s f x t u, are_same_by s f x t u a)
