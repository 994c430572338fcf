-- A term has exactly one bounded head form.
use Rattle.core_rules.proofs.Heads.ExactlyOne.{exactly_one_head}
use Rattle.core_rules.proofs.bounded_laws.exactly_one_bounded_head_form.Goals as goal

pub returns : goal.returns
returns c = λ g s t fuel a. exactly_one_head g s t fuel a
