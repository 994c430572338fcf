-- Arguments are paired in one way.
use Rattle.core_rules.proofs.Heads.ExactlyOne.{one_pairing}
use Rattle.core_rules.proofs.bounded_laws.one_pairing.Goals as goal

pub returns : goal.returns
returns c = λ es ds ps qs x y. one_pairing x y
