-- Replacing solved metavariables changes no verdict.
use Rattle.core_rules.proofs.Heads.ReplacedVerdict.{conv_of_image}
use Rattle.core_rules.proofs.bounded_laws.replaced_verdict.Goals as goal

pub returns : goal.returns
returns c = λ g s f fuel depth t u q x a h. conv_of_image g s f x a fuel depth t u q h
