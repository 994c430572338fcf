-- Each tree node has what comes next.
use Rattle.core_rules.proofs.Heads.Next.{follows_by_next}
use Rattle.core_rules.proofs.bounded_laws.next_of_tree.Goals as goal

pub returns : goal.returns
returns c = λ g s h all T r es w n. follows_by_next g s h all T r es w n
