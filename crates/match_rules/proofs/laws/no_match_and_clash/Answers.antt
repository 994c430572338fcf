-- Patterns do not match and clash.
use Rattle.match_rules.proofs.Cover.Standing.{not_both_front}
use Rattle.match_rules.proofs.laws.no_match_and_clash.Goals as goal

pub returns : goal.returns
returns c = λ g ps es rest σ x y. not_both_front g x y
