-- Replacing solved metavariables changes no bounded head form.
use Rattle.core_rules.proofs.Heads.ReplacedVerdict.{head_of_image}
use Rattle.core_rules.proofs.bounded_laws.replaced_bounded_head_form.Goals as goal

pub returns : goal.returns
returns c = λ g s f t fuel b x a h. head_of_image g s f x a t fuel b h
