-- Each term has what comes next.
use Rattle.core_rules.proofs.Heads.Next.{heads_by_next}
use Rattle.core_rules.proofs.bounded_laws.next_of_term.Goals as goal

pub returns : goal.returns
returns c = λ g s t es w n. heads_by_next g s t es w n
