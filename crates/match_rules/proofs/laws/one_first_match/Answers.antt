-- One clause is the first that matches.
use Rattle.match_rules.proofs.Cover.OneFirst.{one_first}
use Rattle.match_rules.proofs.laws.one_first_match.Goals as goal

pub returns : goal.returns
returns c = λ g qs i j es rest more σ τ x y. one_first g x y
