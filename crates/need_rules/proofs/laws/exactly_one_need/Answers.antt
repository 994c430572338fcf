-- The statement is the lemma.
use Rattle.need_rules.proofs.Needs.{exactly_one}
use Rattle.need_rules.proofs.laws.exactly_one_need.Goals as goal

pub returns : goal.returns
returns g c = exactly_one
