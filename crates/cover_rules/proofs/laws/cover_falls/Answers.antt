-- The rank falls, and so covering ends.
use Rattle.core_rules.specs.UnifierAnswers.{answers}
use Rattle.cover_rules.proofs.Falls.{rank_falls, all_terminate}
use Rattle.cover_rules.proofs.laws.cover_falls.Goals as goal

pub returns : goal.returns
returns c = (λ g fuel u f qs n n' r x y. rank_falls g fuel (answers u) f qs n n' r x y, λ g fuel u f qs n. all_terminate g fuel (answers u) f qs n)
