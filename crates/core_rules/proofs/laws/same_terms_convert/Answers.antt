-- Terms that differ in names alone are convertible.
use Rattle.core_rules.proofs.Conversion.Names.{same_term}
use Rattle.core_rules.proofs.laws.same_terms_convert.Goals as goal

pub returns : goal.returns
returns c = λ g t u h. same_term g t u h
