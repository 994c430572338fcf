-- A term has one bounded head form.
use Rattle.core_rules.proofs.Heads.OneVerdict.{head_of_one}
use Rattle.core_rules.proofs.bounded_laws.one_bounded_head_form.Goals as goal

pub returns : goal.returns
returns c = λ g s t fuel b d x y. head_of_one g s t fuel b d x y
