-- The call does not fit.
use Rattle.match_rules.proofs.Cover.Unfit.{other_flag_unfit}
use Rattle.match_rules.proofs.laws.other_flag_unfit.Goals as goal

pub returns : goal.returns
returns c = λ t u. other_flag_unfit t u
