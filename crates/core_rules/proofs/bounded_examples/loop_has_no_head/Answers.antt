-- The statement is the lemma.
use Rattle.core_rules.proofs.Heads.Looping.{loop_has_no_head}
use Rattle.core_rules.proofs.bounded_examples.loop_has_no_head.Goals as goal

pub returns : goal.returns
returns c = loop_has_no_head
