-- A head form is its own head form.
use Rattle.core_rules.proofs.Heads.Again.{again}
use Rattle.core_rules.proofs.bounded_laws.head_form_again.Goals as goal

pub returns : goal.returns
returns c = λ g s t es w n d. again g s d
