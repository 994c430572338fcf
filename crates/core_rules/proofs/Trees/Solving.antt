-- Which variables can be solved by which terms.
use Rattle.std.specs.Prelude.{◌≡◌, ℕ, refl}
use Rattle.std.proofs.Common.{sym, subst as transport}
use Rattle.std.proofs.lemmas.Bool.{eqb-true}
use Rattle.core_rules.specs.Term.{Var, Sort}
use Rattle.core_rules.specs.Substitution.{value_at}
use Rattle.core_rules.specs.Unification as U
use Rattle.core_rules.specs.Unification.{Depends, CanSolve, whole_types}
use Rattle.core_rules.specs.TreeExamples.{chain, SolvingAsksForTypes}

not_by_y : CanSolve (whole_types 0 chain) 2 (Var 0) → ⊥
not_by_y c = c.free 0 refl (U.through 1 refl (U.stands refl))

nor_x : CanSolve (whole_types 0 chain) 1 (Var 0) → ⊥
nor_x c = c.free 0 refl (U.stands refl)

sort_alone : (x : ℕ) → Depends (whole_types 0 chain) (Sort 0) x → ⊥
sort_alone x (U.stands e) = absurd cc
sort_alone x (U.through y e d) = absurd cc

y_by_a : CanSolve (whole_types 0 chain) 0 (Var 2)
y_by_a = record {
  absent = refl;
  free = λ y e d. let p : 2 ≡ y = eqb-true 2 y e in sort_alone 0 (transport (λ y. Depends (whole_types 0 chain) (value_at (whole_types 0 chain) y) 0) (sym p) d);
}

pub solving_asks_for_types : SolvingAsksForTypes
solving_asks_for_types = (not_by_y, nor_x, y_by_a, λ c. let e = c.absent in absurd cc)
