-- A derivable signature grows by declarations that are good over it, and so do its parts.
use Rattle.std.specs.Prelude.{◌≡◌, ℕ, ◌⊎◌, ◌<◌, ◌≤◌, [], ◌∷◌, ◌++◌, length, take, slice_get, Some, refl, zero, suc}
use Rattle.std.proofs.Common.{ap, sym, ◌∙◌, subst, arith, ⊎_elim}
use Rattle.std.proofs.lemmas.List.{take-append-le, take-take, take_all}
use Rattle.core_rules.specs.Term.{Term, HasNoMeta}
use Rattle.core_rules.specs.Signature.{Signature, Decl, FamDecl, Family, fam_decl}
use Rattle.core_rules.specs.Mapped.{AllDecl}
use Rattle.core_rules.specs.Derivable.{Derivable, Good}
use Rattle.core_rules.specs.Derivable as D
use Rattle.core_rules.specs.InScope.{HasShape}
use Rattle.core_rules.proofs.Signature.Places.{fam_stands}

pub get_before : (g h : Signature Term) (i : ℕ) → i < length g → slice_get (g ++ h) i ≡ slice_get g i
get_before [] h i b = absurd (omega arith)
get_before (x ∷ g) h zero b = refl
get_before (x ∷ g) h (suc i) b = get_before g h i (omega arith)

pub get_last : (g : Signature Term) (d e : Decl Term) (i : ℕ) → length g ≤ i → slice_get (g ++ d ∷ []) i ≡ Some e → (d ≡ e) × (i ≡ length g)
get_last [] d e zero b h = (cc h, refl)
get_last [] d e (suc i) b h = absurd cc
get_last (x ∷ g) d e zero b h = absurd (omega arith)
get_last (x ∷ g) d e (suc i) b h = let p = get_last g d e i (omega arith) h in (p.0, ap suc p.1)

take_whole : (g h : Signature Term) (i : ℕ) → i ≡ length g → take i (g ++ h) ≡ g
take_whole g h i e = take-append-le i g h (omega (arith, e)) ∙ take_all i g (omega (arith, e))

two : (i k : ℕ) → (i < k) ⊎ (k ≤ i)
two i k = grind arith

pub derivable-extended : (g : Signature Term) (d : Decl Term) → Derivable g → Good g d → AllDecl HasNoMeta d → Derivable (g ++ d ∷ [])
derivable-extended g d r h m = record {
  good = λ i e s. ⊎_elim
      (λ b. rw (take-append-le i g (d ∷ []) (omega (arith, b))) (r.good i e (sym (get_before g (d ∷ []) i b) ∙ s)))
      (λ b. let p = get_last g d e i b s in rw (take_whole g (d ∷ []) i p.1) (subst (Good g) p.0 h)) (two i (length g));
  no_meta = λ i e s. ⊎_elim
      (λ b. r.no_meta i e (sym (get_before g (d ∷ []) i b) ∙ s))
      (λ b. let p = get_last g d e i b s in subst (AllDecl HasNoMeta) p.0 m) (two i (length g));
}

get_taken : (g : Signature Term) (n i : ℕ) (d : Decl Term) → slice_get (take n g) i ≡ Some d → (i ≤ n) × (slice_get g i ≡ Some d)
get_taken g zero i d h = absurd cc
get_taken [] (suc n) i d h = absurd cc
get_taken (x ∷ g) (suc n) zero d h = (omega arith, h)
get_taken (x ∷ g) (suc n) (suc i) d h = let p = get_taken g n i d h in (omega (arith, p.0), p.1)

pub derivable-taken : (g : Signature Term) (n : ℕ) → Derivable g → Derivable (take n g)
derivable-taken g n r = record {
  good = λ i d s. let p = get_taken g n i d s in rw (take-take i n g p.0) (r.good i d p.1);
  no_meta = λ i d s. r.no_meta i d (get_taken g n i d s).1;
}

good_shape : (g : Signature Term) (d : FamDecl Term) → Good g (Family d) → HasShape d
good_shape g d (D.family h) = h.shape

-- each family of a derivable signature has its shape
pub derivable-shape : (g : Signature Term) → Derivable g → (k : ℕ) (d : FamDecl Term) → fam_decl g k ≡ Some d → HasShape d
derivable-shape g r k d e = let p = fam_stands g k d e in good_shape (take p.place g) d (r.good p.place (Family d) p.is)
