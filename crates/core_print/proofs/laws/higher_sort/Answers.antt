use Rattle.std.proofs.Common.{ℕ, List, ◌++◌, ap, arith}
use Rattle.std.specs.Prelude.{codes}
use Rattle.std.proofs.lemmas.Fmt.{decimal_digit}
use Rattle.core_print.proofs.laws.higher_sort.Goals as goal

pub returns : goal.returns
returns c = ap (λ (d : List ℕ). codes "Set" ++ d) (decimal_digit 1 (omega arith))
