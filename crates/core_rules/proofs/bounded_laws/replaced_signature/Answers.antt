-- A signature without metavariables stays.
use Rattle.core_rules.proofs.Heads.Untouched.{signature_untouched}
use Rattle.core_rules.proofs.bounded_laws.replaced_signature.Goals as goal

pub returns : goal.returns
returns c = λ g f h. signature_untouched f g h
