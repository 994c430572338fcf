-- Conversion is kept where solutions are replaced.
use Rattle.core_rules.proofs.Conversion.Replaced.{conv-replaced}
use Rattle.core_rules.proofs.bounded_laws.replaced_conversion.Goals as goal

pub returns : goal.returns
returns c = λ g f t u s h. conv-replaced g f t u s h
