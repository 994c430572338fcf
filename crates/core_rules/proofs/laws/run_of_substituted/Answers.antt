-- A tree runs on eliminations under an environment to a term that is convertible to the old one under it.
use Rattle.core_rules.proofs.Run.Moved.{run-changed}
use Rattle.core_rules.specs.Substitution.{env_var}
use Rattle.core_rules.proofs.Substitution.Changes.{env_lifted}
use Rattle.core_rules.proofs.laws.run_of_substituted.Goals as goal

pub returns : goal.returns
returns c = λ g f T s es t h. run-changed g f (env_var s) (env_lifted s) 0 T es t h
