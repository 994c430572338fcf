-- Shifts do not see names.
use Rattle.core_rules.proofs.Names.Alike.{alike_of, same_of, alike-shift}
use Rattle.core_rules.proofs.name_laws.shift_of_same_terms.Goals as goal

pub returns : goal.returns
returns c = λ t u from by e. same_of (alike-shift from by (alike_of t u e))
