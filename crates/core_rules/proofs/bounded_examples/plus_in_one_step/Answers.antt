-- The steps are counted in turn.
use Rattle.core_rules.proofs.Heads.Counted.{plus_once}
use Rattle.core_rules.proofs.bounded_examples.plus_in_one_step.Goals as goal

pub returns : goal.returns
returns c = plus_once
