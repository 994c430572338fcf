-- Replacing solved metavariables changes no head form.
use Rattle.core_rules.proofs.Heads.Replaced.{heads_image}
use Rattle.core_rules.proofs.bounded_laws.replaced_head_form.Goals as goal

pub returns : goal.returns
returns c = λ g s f t es w n x d. heads_image f g s x d
