-- A tree runs in a shifted environment on shifted eliminations to the shifted term.
use Rattle.core_rules.proofs.Run.Renamed.{run-renamed}
use Rattle.core_rules.specs.Substitution.{shift_var}
use Rattle.core_rules.proofs.Substitution.Changes.{shift_lifted, shift_variables}
use Rattle.core_rules.proofs.laws.run_of_shifted.Goals as goal

pub returns : goal.returns
returns c = λ g T r es t from by h. run-renamed g (shift_var from by) (shift_lifted from by) (shift_variables from by) 0 h
