-- Telescopes, constructors and families that are read one part after the other.
use Rattle.std.proofs.Common.{◌≡◌, ℕ, true, false, List, [], ◌∷◌, ◌++◌, length, append_assoc, refl, sym, ap}
use Rattle.std.specs.Prelude.{Bool, cond, eqb}
use Rattle.std.proofs.lemmas.List.{append-nil}
use Rattle.core_rules.specs.Term.{Term}
use Rattle.core_rules.specs.Signature.{Entry, Context, Telescope, onto, ConDecl, FamDecl, Family, Signature, fams, without_cons}
use Rattle.core_rules.specs.Elimination.{con_end}
use Rattle.kernel_rules.specs.Outcome.{Outcome, Gives, Refuses, Then, goes_on, stops}
use Rattle.kernel_rules.specs.Refusals.{Refusal, DeclRefusal, OfKernel, ConShape, TooBig, AfterTerms}
use Rattle.kernel_rules.specs.TermReading.{IsTypeOf}
use Rattle.kernel_rules.specs.FamilyReading.{LevelsOf, ConOf, ConsOf, FamilyOf, none_above}
use Rattle.core_kernel.specs.Family.{IsDone, TelescopesOf}

-- with the levels ls before those of r
abbrev pub prefixed : List ℕ → Outcome Refusal (List ℕ) → Outcome Refusal (List ℕ)
prefixed ls (Gives ns) = Gives (ls ++ ns)
prefixed ls (Refuses e) = Refuses e

pub prefixed-one : (ls : List ℕ) (n : ℕ) (r : Outcome Refusal (List ℕ)) → prefixed ls (prefixed (n ∷ []) r) ≡ prefixed (ls ++ n ∷ []) r
prefixed-one ls n (Gives ns) = ap Gives (sym (append_assoc ls (n ∷ []) ns))
prefixed-one ls n (Refuses e) = refl

pub prefixed-none : (ls : List ℕ) → prefixed ls (Gives []) ≡ Gives ls
prefixed-none ls = ap Gives (append-nil ls)

-- the outcome of a test
abbrev demanded_or : DeclRefusal → Bool → Outcome DeclRefusal (Unit {0})
demanded_or e w = cond w (Gives tt) (Refuses e)

module _ (g : Signature Term) (fuel depth : ℕ) where
  pub levels-next : (c : Context Term) (e : Entry Term) (es : Telescope Term) (n : ℕ) (r : Outcome Refusal (List ℕ)) → IsTypeOf g fuel depth c e.ty (Gives n)
      → LevelsOf g fuel depth (e ∷ c) es r → LevelsOf g fuel depth c (e ∷ es) (prefixed (n ∷ []) r)
  levels-next c e es n (Gives ns) h k = goes_on n h (goes_on ns k refl)
  levels-next c e es n (Refuses x) h k = goes_on n h (stops x k refl)

  pub levels-refused : (c : Context Term) (e : Entry Term) (es : Telescope Term) (x : Refusal) → IsTypeOf g fuel depth c e.ty (Refuses x) → LevelsOf g fuel depth c (e ∷ es) (Refuses x)
  levels-refused c e es x h = stops x h refl

  -- ---- a constructor

  module _ (n : ℕ) (d : FamDecl Term) (k : ConDecl Term) where
    pub con-args : (x : Refusal) → LevelsOf g fuel depth (onto d.params []) k.args (Refuses x) → ConOf g fuel depth n d k (Refuses (OfKernel x))
    con-args x h = stops x h refl

    module _ (ns : List ℕ) (h : LevelsOf g fuel depth (onto d.params []) k.args (Gives ns)) where
      pub con-shape : eqb (length k.indices) (length d.indices) ≡ false → ConOf g fuel depth n d k (Refuses ConShape)
      con-shape e = goes_on ns h (stops ConShape (ap (demanded_or ConShape) (sym e)) refl)

      module _ (e : eqb (length k.indices) (length d.indices) ≡ true) where
        shaped : ◌≡◌ {A = Outcome DeclRefusal (Unit {0})} (Gives tt) (cond (eqb (length k.indices) (length d.indices)) (Gives tt) (Refuses ConShape))
        shaped = ap (demanded_or ConShape) (sym e)

        pub con-end : (x : Refusal) → IsTypeOf g fuel depth (onto k.args (onto d.params [])) (con_end n d k) (Refuses x) → ConOf g fuel depth n d k (Refuses (OfKernel x))
        con-end x t = goes_on ns h (goes_on tt shaped (stops x t refl))

        module _ (m : ℕ) (t : IsTypeOf g fuel depth (onto k.args (onto d.params [])) (con_end n d k) (Gives m)) where
          pub con-big : none_above d.level ns ≡ false → ConOf g fuel depth n d k (Refuses TooBig)
          con-big b = goes_on ns h (goes_on tt shaped (goes_on m t (ap (demanded_or TooBig) (sym b))))

          pub con-good : none_above d.level ns ≡ true → ConOf g fuel depth n d k (Gives tt)
          con-good b = goes_on ns h (goes_on tt shaped (goes_on m t (ap (demanded_or TooBig) (sym b))))

  -- ---- a family

  abbrev Telescopes : FamDecl Term → Outcome Refusal (Unit {0}) → Type 0
  Telescopes d = TelescopesOf g fuel depth d

  inner_refused : (d : FamDecl Term) (x : Refusal) → Then (LevelsOf g fuel depth (onto d.params []) d.indices) (λ ms. IsDone) (Refuses x)
      → AfterTerms (LevelsOf g fuel depth (onto d.params []) d.indices) (λ ms. ConsOf (g ++ Family (without_cons d) ∷ []) fuel depth (length (fams g)) d d.cons) (Refuses (OfKernel x))
  inner_refused d x (goes_on ms k q) = absurd cc
  inner_refused d x (stops y k q) = let e : x ≡ y = cc q in stops y k (ap (λ z. Refuses (OfKernel z)) e)

  pub family-refused : (d : FamDecl Term) (x : Refusal) → Telescopes d (Refuses x) → FamilyOf g fuel depth d (Refuses (OfKernel x))
  family-refused d x (goes_on ns h k) = goes_on ns h (inner_refused d x k)
  family-refused d x (stops y h q) = let e : x ≡ y = cc q in stops y h (ap (λ z. Refuses (OfKernel z)) e)

  inner_after : (d : FamDecl Term) (r : Outcome DeclRefusal (Unit {0})) → Then (LevelsOf g fuel depth (onto d.params []) d.indices) (λ ms. IsDone) (Gives tt)
      → ConsOf (g ++ Family (without_cons d) ∷ []) fuel depth (length (fams g)) d d.cons r
      → AfterTerms (LevelsOf g fuel depth (onto d.params []) d.indices) (λ ms. ConsOf (g ++ Family (without_cons d) ∷ []) fuel depth (length (fams g)) d d.cons) r
  inner_after d r (goes_on ms k q) c = goes_on ms k c
  inner_after d r (stops y k q) c = absurd cc

  pub family-after : (d : FamDecl Term) (r : Outcome DeclRefusal (Unit {0})) → Telescopes d (Gives tt) → ConsOf (g ++ Family (without_cons d) ∷ []) fuel depth (length (fams g)) d d.cons r → FamilyOf g fuel depth d r
  family-after d r (goes_on ns h k) c = goes_on ns h (inner_after d r k c)
  family-after d r (stops y h q) c = absurd cc
