use Rattle.lhs_rules.proofs.Typed.Whole.{left-reached}
use Rattle.lhs_rules.proofs.laws.left_is_reached.Goals as goal

pub returns : goal.returns
returns c = λ g fuel u f a qs l k i h. left-reached g k fuel u i f a qs l h
