-- The call does not fit.
use Rattle.match_rules.proofs.Cover.Unfit.{other_field_unfit}
use Rattle.match_rules.proofs.laws.other_field_unfit.Goals as goal

pub returns : goal.returns
returns c = λ g a b p f. other_field_unfit g a b p f
