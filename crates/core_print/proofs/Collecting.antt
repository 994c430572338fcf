-- The variables that patterns write are those of the patterns over other terms, and are collected one after the other.
use Rattle.std.proofs.Common.{◌≡◌, ℕ, ◌+◌, ◌<◌, ◌≤◌, List, [], ◌∷◌, ◌++◌, length, drop, get_or, zero, suc, refl, sym, ap, ap₂, ◌∙◌, subst, arith, append_assoc, Vec, Global}
use Rattle.std.proofs.lemmas.List.{append-nil}
use Rattle.el_base.proofs.Lists.{drop_next}
use Rattle.core_rules.specs.Signature.{CorePat, PatShape, CorePats, Pat, VarPat, SolvedPat, DottedPat, ConPat, AbsurdPat, ProjectionPat, NoPat, AndPat}
use Rattle.core_rules.specs.Mapped.{AllPat, AllPats, AllShape, pat_map, pats_map, shape_map}
use Rattle.core_terms.specs.Pattern.{pat_of, shape_of}
use Rattle.core_terms.specs.Patterns.{pats_of}
use Rattle.core_terms.specs.Sizes.{pat_size, pats_size, shape_size}
use Rattle.core_terms.specs.declared.pattern.CorePat.TheInside.{Inside}
use Rattle.core_terms.specs.declared.pattern.PatShape.TheVariants as C
use Rattle.core_print.specs.Variables.{WrittenVar, by_origin, place_of, variables, variables_all, variables_inside}

module _ {A B : Type 0} (f : A → B) where
  place-map : (q : PatShape A) → place_of (shape_map f q) ≡ place_of q
  place-map (VarPat i) = refl
  place-map (SolvedPat t) = refl
  place-map (DottedPat t) = refl
  place-map (ConPat k ps) = refl
  place-map AbsurdPat = refl
  place-map (ProjectionPat k) = refl

  mutual
    variables-map : (p : CorePat A) → variables (pat_map f p) ≡ variables p
    variables-map (Pat q o b) = ap₂ (λ i (vs : List WrittenVar). by_origin i o ++ vs) (place-map q) (inside-map q)

    inside-map : (q : PatShape A) → variables_inside (shape_map f q) ≡ variables_inside q
    inside-map (VarPat i) = refl
    inside-map (SolvedPat t) = refl
    inside-map (DottedPat t) = refl
    inside-map (ConPat k ps) = all-map ps
    inside-map AbsurdPat = refl
    inside-map (ProjectionPat k) = refl

    pub all-map : (ps : CorePats A) → variables_all (pats_map f ps) ≡ variables_all ps
    all-map NoPat = refl
    all-map (AndPat p ps) = ap₂ (λ (us vs : List WrittenVar). us ++ vs) (variables-map p) (all-map ps)

-- none is left
pub drop_none : {X : Type 0} (xs : List X) (i : ℕ) → length xs ≤ i → drop i xs ≡ []
drop_none [] zero l = refl
drop_none [] (suc i) l = refl
drop_none (x ∷ xs) zero l = absurd (omega (arith, l))
drop_none (x ∷ xs) (suc i) l = drop_none xs i (omega (arith, l))

-- the next pattern
pub pats_next : (ps : List (CorePat ℕ)) (i : ℕ) (p : CorePat ℕ) → i < length ps → p ≡ get_or ps i p → pats_of (drop i ps) ≡ AndPat p (pats_of (drop (i + 1) ps))
pats_next ps i p l e = ap pats_of (drop_next ps i p l e)

pub pats_end : (ps : List (CorePat ℕ)) (i : ℕ) → length ps ≤ i → pats_of (drop i ps) ≡ NoPat
pats_end ps i l = ap pats_of (drop_none ps i l)

-- what is collected so far, and what is left
pub collect_next : (us vs : List WrittenVar) (ps : List (CorePat ℕ)) (i : ℕ) (p : CorePat ℕ) → i < length ps → p ≡ get_or ps i p → vs ≡ us ++ variables p
    → us ++ variables_all (pats_of (drop i ps)) ≡ vs ++ variables_all (pats_of (drop (i + 1) ps))
collect_next us vs ps i p l e h =
    let rest : List WrittenVar = variables_all (pats_of (drop (i + 1) ps)) in
    ap (λ (qs : CorePats ℕ). us ++ variables_all qs) (pats_next ps i p l e) ∙ (sym (append_assoc us (variables p) rest) ∙ ap (λ (zs : List WrittenVar). zs ++ rest) (sym h))

pub collect_end : (us : List WrittenVar) (ps : List (CorePat ℕ)) (i : ℕ) → length ps ≤ i → us ++ variables_all (pats_of (drop i ps)) ≡ us
collect_end us ps i l = ap (λ (qs : CorePats ℕ). us ++ variables_all qs) (pats_end ps i l) ∙ append-nil us

-- ---- how deep patterns are, and the terms in them

pub size_at : (ps : List (CorePat ℕ)) (i : ℕ) (p : CorePat ℕ) → i < length ps → p ≡ get_or ps i p → pat_size p + 1 ≤ pats_size (pats_of ps)
size_at [] i p l e = absurd (omega (arith, l))
size_at (q ∷ ps) zero p l e = omega (arith, ap pat_size e)
size_at (q ∷ ps) (suc i) p l e = omega (arith, size_at ps i p (omega (arith, l)) e)

pub con_size : (i : Inside) (p : CorePat ℕ) (k : ℕ) (ps : Vec (CorePat ℕ) Global) → pat_of i ≡ p → i.shape ≡ C.Con k ps → pat_size p ≡ pats_size (pats_of ps.items)
con_size i p k ps e h = ap pat_size (sym e) ∙ ap (λ q. shape_size (shape_of q)) h

pub con_terms : (P : ℕ → Type 0) (i : Inside) (p : CorePat ℕ) (k : ℕ) (ps : Vec (CorePat ℕ) Global) → pat_of i ≡ p → i.shape ≡ C.Con k ps → AllPat P p → AllPats P (pats_of ps.items)
con_terms P i p k ps e h a = subst (λ q. AllShape P (shape_of q)) h (subst (AllPat P) (sym e) a)
