-- The results of shifting terms, by the number of binders.
use Rattle.std.specs.Prelude.{◌≡◌, ℕ, ◌<◌, List, [], ◌∷◌, length, Some}
use Rattle.std.specs.List.{AllByRecursion}
use Rattle.std.proofs.Common.{arith, sym, subst}
use Rattle.core_rules.specs.Substitution.{shift}
use Rattle.term_pool.specs.Pool.{Pool, tree, Extends, StandsFor}
use Rattle.term_pool.specs.Growth.{Extends-length, Extends-tree, Extends-StandsFor}
use Rattle.term_pool.specs.Table.{Results, found}

pub record AreShifted (m : Results) (p : Pool) : Type 0 where
  pub at : (t d r : ℕ) → found m t d ≡ Some r → (t < length p.trees) × StandsFor p r (shift (tree p t) 0 d)

pub AreShifted-stays : {m : Results} {p q : Pool} → Extends p q → AreShifted m p → AreShifted m q
AreShifted-stays {m} {p} {q} g h = record {
  at = λ t d r e. let a = h.at t d r e in
      (omega (arith, Extends-length g, a.0), subst (λ u. StandsFor q r (shift u 0 d)) (sym (Extends-tree t g a.0)) (Extends-StandsFor g a.1));
}

-- what a change that puts these items must find
pub record IsReady (m : Results) (ids : List ℕ) (p : Pool) : Type 0 where
  pub shifted : AreShifted m p
  pub items : AllByRecursion (λ i. i < length p.trees) ids

pub within-stays : (p q : Pool) (ids : List ℕ) → Extends p q → AllByRecursion (λ i. i < length p.trees) ids → AllByRecursion (λ i. i < length q.trees) ids
within-stays p q [] g h = tt
within-stays p q (i ∷ ids) g h = (omega (arith, Extends-length g, h.0), within-stays p q ids g h.1)

pub IsReady-stays : {m : Results} {ids : List ℕ} {p q : Pool} → Extends p q → IsReady m ids p → IsReady m ids q
IsReady-stays {m} {ids} {p} {q} g h = record { shifted = AreShifted-stays g h.shifted; items = within-stays p q ids g h.items }
