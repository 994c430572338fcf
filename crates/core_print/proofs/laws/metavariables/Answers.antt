use Rattle.std.proofs.Common.{ℕ, List, ◌++◌, refl, ap, arith}
use Rattle.std.specs.Prelude.{codes}
use Rattle.std.proofs.lemmas.Fmt.{decimal_digit}
use Rattle.core_print.proofs.laws.metavariables.Goals as goal

pub returns : goal.returns
returns c = let e = decimal_digit 1 (omega arith) in (ap (λ (d : List ℕ). codes "?" ++ (d ++ codes " zero")) e, refl, refl)
