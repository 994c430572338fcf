-- Patterns match in one way.
use Rattle.match_rules.proofs.Cover.Standing.{front_one}
use Rattle.match_rules.proofs.laws.one_match.Goals as goal

pub returns : goal.returns
returns c = λ g ps es rest more σ τ x y. front_one g x y
