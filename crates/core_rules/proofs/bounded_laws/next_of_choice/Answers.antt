-- Each choice has what comes next.
use Rattle.core_rules.proofs.Heads.Next.{after_by_next}
use Rattle.core_rules.proofs.bounded_laws.next_of_choice.Goals as goal

pub returns : goal.returns
returns c = λ g s h all k r es o w n. after_by_next g s h all k r es o w n
