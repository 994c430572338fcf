-- The constructors of an absurd node, refuted one after the other.
use Rattle.std.proofs.Common.{◌≡◌, ◌<◌, ◌==◌, ℕ, true, false, List, [], ◌∷◌, length, refl, subst}
use Rattle.conversion.proofs.Slices.{empty_of}
use Rattle.std.specs.List.{AllByRecursion}
use Rattle.core_rules.specs.Signature.{ConDecl}
use Rattle.core_rules.specs.Mapped.{AllCon}
use Rattle.kernel_rules.specs.Outcome.{Outcome, Gives, Refuses, goes_on, stops}
use Rattle.kernel_rules.specs.Refusals.{DeclRefusal, BadTree}
use Rattle.tree_kernel.specs.Nodes.{ReadsAbsurd, ReadsRefuted, count}
use Rattle.tree_kernel.specs.declared.job.Split as S
use Rattle.tree_kernel.specs.declared.reader.Reader.{Reader}

-- what the constructors that are left come to is what all come to
pub record RefutesLeft (x : Reader) (s : S.Split) (ids ks : List ℕ) (all left : List (ConDecl ℕ)) : Type 0 where
  pub below : AllByRecursion (AllCon (λ i. i < count x)) left
  pub on : (r : Outcome DeclRefusal (Unit {0})) → ReadsAbsurd x s ks left r → ReadsAbsurd x s ids all r

pub refutes-first : (x : Reader) (s : S.Split) (ids : List ℕ) (all : List (ConDecl ℕ)) → AllByRecursion (AllCon (λ i. i < count x)) all
    → RefutesLeft x s ids ids all all
refutes-first x s ids all h = record { below = h; on = λ r k. k }

module _ (x : Reader) (s : S.Split) (ids ks : List ℕ) (all left more : List (ConDecl ℕ)) (con : ConDecl ℕ) (h : RefutesLeft x s ids ks all left)
    (l : left ≡ con ∷ more) where
  at : RefutesLeft x s ids ks all (con ∷ more)
  at = subst (λ (cs : List (ConDecl ℕ)). RefutesLeft x s ids ks all cs) l h

  pub con-below : AllCon (λ i. i < count x) con
  con-below = at.below.0

  -- no id is left
  pub refutes-short : ks ≡ [] → ReadsAbsurd x s ids all (Refuses BadTree)
  refutes-short e = (subst (λ (ks : List ℕ). RefutesLeft x s ids ks all (con ∷ more)) e at).on (Refuses BadTree) refl

  module _ (k : ℕ) (others : List ℕ) (e : ks ≡ k ∷ others) where
    there : RefutesLeft x s ids (k ∷ others) all (con ∷ more)
    there = subst (λ (ks : List ℕ). RefutesLeft x s ids ks all (con ∷ more)) e at

    pub refutes-stop : (r : DeclRefusal) → ReadsRefuted x s k con (Refuses r) → ReadsAbsurd x s ids all (Refuses r)
    refutes-stop r d = there.on (Refuses r) (stops r d refl)

    pub refutes-next : ReadsRefuted x s k con (Gives tt) → RefutesLeft x s ids others all more
    refutes-next d = record { below = at.below.1; on = λ r m. there.on r (goes_on tt d m) }

module _ (x : Reader) (s : S.Split) (ids ks : List ℕ) (all left : List (ConDecl ℕ)) (h : RefutesLeft x s ids ks all left) (l : left ≡ []) where
  end : RefutesLeft x s ids ks all []
  end = subst (λ (cs : List (ConDecl ℕ)). RefutesLeft x s ids ks all cs) l h

  pub refutes-all : (length ks == 0) ≡ true → ReadsAbsurd x s ids all (Gives tt)
  refutes-all e = (subst (λ (ks : List ℕ). RefutesLeft x s ids ks all []) (empty_of ks e) end).on (Gives tt) refl

  pub refutes-long : (length ks == 0) ≡ false → ReadsAbsurd x s ids all (Refuses BadTree)
  refutes-long n = by_ids ks end n
    where
      by_ids : (ks : List ℕ) → RefutesLeft x s ids ks all [] → (length ks == 0) ≡ false → ReadsAbsurd x s ids all (Refuses BadTree)
      by_ids [] h n = absurd cc
      by_ids (k ∷ others) h n = h.on (Refuses BadTree) refl
