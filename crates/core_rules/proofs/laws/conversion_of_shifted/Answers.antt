-- Conversion is kept by a shift.
use Rattle.core_rules.proofs.Conversion.Shifted.{conv-shift}
use Rattle.core_rules.proofs.laws.conversion_of_shifted.Goals as goal

pub returns : goal.returns
returns c = λ g t u from by h. conv-shift from by h
