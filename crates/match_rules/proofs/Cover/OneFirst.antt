-- One clause at most is the first that matches.
use Rattle.std.specs.Prelude.{◌≡◌, ℕ, List, suc, refl}
use Rattle.std.proofs.Common.{ap}
use Rattle.core_rules.specs.Term.{Term}
use Rattle.core_rules.specs.Signature.{Signature}
use Rattle.core_rules.specs.Elimination.{Elim}
use Rattle.match_rules.specs.Matching as M
use Rattle.match_rules.specs.Matching.{Clause, Bound, FirstMatch}
use Rattle.match_rules.proofs.Cover.Standing.{front_one, not_both_front}

module _ (g : Signature Term) where
  pub one_first : {qs : List Clause} {i j : ℕ} {es rest more : List Elim} {σ τ : Bound} → FirstMatch g qs i es σ rest → FirstMatch g qs j es τ more → (i ≡ j) × (σ ≡ τ) × (rest ≡ more)
  one_first (M.first f) (M.first h) = let x = front_one g f h in (refl, x.0, x.1)
  one_first (M.first f) (M.next a k) = absurd (not_both_front g f a)
  one_first (M.next a k) (M.first f) = absurd (not_both_front g f a)
  one_first (M.next a k) (M.next b l) = let x = one_first k l in (ap suc x.0, x.1, x.2)
