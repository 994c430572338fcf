-- Conversion is kept under eliminations.
use Rattle.core_rules.proofs.Conversion.Changed.{conv-elims}
use Rattle.core_rules.proofs.laws.conversion_under_eliminations.Goals as goal

pub returns : goal.returns
returns c = λ g t u es h. conv-elims es h
