-- The kernel's reading of a family: its parameters, its indices, and then constructor by constructor the types of its arguments, its
-- end, and the levels of its arguments.
use Rattle.std.specs.Prelude.{◌≡◌, ℕ, Bool, true, false, cond, eqb, ltb, List, [], ◌∷◌, ◌++◌, length}
use Rattle.core_rules.specs.Term.{Term}
use Rattle.core_rules.specs.Signature.{Telescope, Context, onto, ConDecl, FamDecl, Family, Signature, fams, without_cons}
use Rattle.core_rules.specs.Elimination.{con_end}
use Rattle.kernel_rules.specs.Outcome.{Outcome, Gives, Then}
use Rattle.kernel_rules.specs.TermReading.{IsTypeOf}
use Rattle.kernel_rules.specs.Refusals.{Refusal, DeclRefusal, ConShape, TooBig, AfterTerms, IsAccepted, Demands}

-- no level is above the family's
abbrev pub none_above : ℕ → List ℕ → Bool
none_above l [] = true
none_above l (n ∷ ns) = cond (ltb l n) false (none_above l ns)

module _ (g : Signature Term) (fuel depth : ℕ) where
  -- the levels of entries, each of which is read in c and the entries before it
  abbrev pub LevelsOf : Context Term → Telescope Term → Outcome Refusal (List ℕ) → Type 0
  LevelsOf c [] r = r ≡ Gives []
  LevelsOf c (e ∷ es) r = Then (IsTypeOf g fuel depth c e.ty) (λ n. Then (LevelsOf (e ∷ c) es) (λ ns q. q ≡ Gives (n ∷ ns))) r

  -- a constructor of family number n, where g knows the family. The fields of a record are the arguments of its constructor, so they
  -- are read here too
  abbrev pub ConOf : ℕ → FamDecl Term → ConDecl Term → Outcome DeclRefusal (Unit {0}) → Type 0
  ConOf n d k = AfterTerms (LevelsOf (onto d.params []) k.args) (λ ns. Then (Demands (eqb (length k.indices) (length d.indices)) ConShape)
      (λ o. AfterTerms (IsTypeOf g fuel depth (onto k.args (onto d.params [])) (con_end n d k)) (λ m. Demands (none_above d.level ns) TooBig)))

  -- constructors in order
  abbrev pub ConsOf : ℕ → FamDecl Term → List (ConDecl Term) → Outcome DeclRefusal (Unit {0}) → Type 0
  ConsOf n d [] r = IsAccepted r
  ConsOf n d (k ∷ ks) r = Then (ConOf n d k) (λ o. ConsOf n d ks) r

-- a family over g, which does not know it yet. Its constructors are read while it is known as a data type without constructors
abbrev pub FamilyOf : Signature Term → ℕ → ℕ → FamDecl Term → Outcome DeclRefusal (Unit {0}) → Type 0
FamilyOf g fuel depth d = AfterTerms (LevelsOf g fuel depth [] d.params) (λ ns. AfterTerms (LevelsOf g fuel depth (onto d.params []) d.indices)
    (λ ms. ConsOf (g ++ Family (without_cons d) ∷ []) fuel depth (length (fams g)) d d.cons))
