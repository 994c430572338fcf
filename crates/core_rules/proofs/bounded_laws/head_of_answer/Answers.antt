-- What stands at the head of an answer.
use Rattle.core_rules.proofs.Heads.ItsHead.{its_head}
use Rattle.core_rules.proofs.bounded_laws.head_of_answer.Goals as goal

pub returns : goal.returns
returns c = λ g s t es w n d. its_head g s d
