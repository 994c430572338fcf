-- What the worked derivations of trees share.
use Rattle.std.specs.Prelude.{◌≡◌, ℕ, ◌+◌, List, [], ◌∷◌, slice_get, Some, zero, suc}
use Rattle.std.proofs.Common.{ap, ◌∙◌, subst as transport, arith}
use Rattle.core_rules.specs.Term.{Term, Var}
use Rattle.core_rules.specs.Substitution.{shift}
use Rattle.core_rules.specs.Signature.{Signature}
use Rattle.core_rules.specs.Conversion.{Conv}
use Rattle.core_rules.proofs.Substitution.Lifted.{shift_none}
use Rattle.core_rules.proofs.Conversion.Changed.{conv_by}

-- the environment r has variables from n on at the places
abbrev pub Keeps : List Term → ℕ → List ℕ → Type 0
Keeps r n [] = Unit {0}
Keeps r n (k ∷ ks) = (slice_get r k ≡ Some (Var n)) × Keeps r (suc n) ks

keeps_from : (r : List Term) (n : ℕ) (ks : List ℕ) → Keeps r n ks → (j k : ℕ) → slice_get ks j ≡ Some k → slice_get r k ≡ Some (Var (n + j))
keeps_from r n [] h j k e = absurd cc
keeps_from r n (i ∷ ks) h zero k e =
    let p : i ≡ k = cc e in
    let q : n ≡ n + 0 = omega arith in
    transport (λ k. slice_get r k ≡ Some (Var (n + 0))) p (h.0 ∙ ap (λ n. Some (Var n)) q)
keeps_from r n (i ∷ ks) h (suc j) k e = let q : suc n + j ≡ n + suc j = omega arith in keeps_from r (suc n) ks h.1 j k e ∙ ap (λ n. Some (Var n)) q

pub keeps : (r : List Term) (ks : List ℕ) → Keeps r 0 ks → (j k : ℕ) → slice_get ks j ≡ Some k → slice_get r k ≡ Some (Var j)
keeps r ks h j k e = let q : 0 + j ≡ j = omega arith in keeps_from r 0 ks h j k e ∙ ap (λ n. Some (Var n)) q

-- a term that was put in under no binder
pub unshifted : {g : Signature Term} (t : Term) → Conv g (shift t 0 0) t
unshifted t = conv_by (shift_none t 0)
