use Rattle.lhs_rules.proofs.Typed.Whole.{left-reached, reached-typed}
use Rattle.lhs_rules.proofs.laws.left_is_typed.Goals as goal

pub returns : goal.returns
returns c = λ g fuel u f a qs l k i d fit h. reached-typed g k u f a d fit (left-reached g k fuel u i f a qs l h)
