-- Each term has a bounded head form.
use Rattle.core_rules.proofs.Heads.Needed.{head_of_stands}
use Rattle.core_rules.proofs.bounded_laws.bounded_head_form_stands.Goals as goal

pub returns : goal.returns
returns c = λ g s t fuel a. head_of_stands g s t fuel a
