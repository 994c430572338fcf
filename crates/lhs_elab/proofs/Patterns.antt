-- Patterns of ids: as the pool grows, one after the other, and how deep they are.
use Rattle.std.proofs.Common.{◌≡◌, ◌<◌, ◌≤◌, ◌+◌, ℕ, zero, suc, List, [], ◌∷◌, ◌++◌, length, map, get_or, refl, ap, ap₂, sym, ◌∙◌, arith, Vec, Global}
use Rattle.std.proofs.lemmas.List.{map-append}
use Rattle.core_rules.specs.Term.{Term}
use Rattle.core_rules.specs.Signature.{CorePat, CorePats, PatShape, Pat, VarPat, SolvedPat, DottedPat, ConPat, AbsurdPat, ProjectionPat, NoPat, AndPat}
use Rattle.core_rules.specs.Mapped.{AllPat, AllPats, AllShape, pat_map, pats_map, shape_map}
use Rattle.core_terms.specs.Pattern.{pat_of, shape_of}
use Rattle.core_terms.specs.Patterns.{pats_of}
use Rattle.core_terms.specs.Sizes.{pat_size, pats_size, shape_size}
use Rattle.core_terms.specs.declared.pattern.CorePat.TheInside.{Inside}
use Rattle.core_terms.specs.declared.pattern.PatShape.TheVariants as C
use Rattle.term_pool.specs.Pool.{Pool, Extends, tree}
use Rattle.term_pool.specs.Growth.{Extends-length, Extends-tree}
use Rattle.lhs_elab.proofs.Visiting.{joined, joined-more}

module _ (p q : Pool) (e : Extends p q) where
  mutual
    pub pat-larger : (x : CorePat ℕ) → AllPat (λ t. t < length p.trees) x → AllPat (λ t. t < length q.trees) x
    pat-larger (Pat s o b) a = shape-larger s a

    shape-larger : (s : PatShape ℕ) → AllShape (λ t. t < length p.trees) s → AllShape (λ t. t < length q.trees) s
    shape-larger (VarPat i) a = tt
    shape-larger (SolvedPat t) a = omega (arith, Extends-length e, a)
    shape-larger (DottedPat t) a = omega (arith, Extends-length e, a)
    shape-larger (ConPat k ps) a = pats-larger ps a
    shape-larger AbsurdPat a = tt
    shape-larger (ProjectionPat k) a = tt

    pub pats-larger : (ps : CorePats ℕ) → AllPats (λ t. t < length p.trees) ps → AllPats (λ t. t < length q.trees) ps
    pats-larger NoPat a = tt
    pats-larger (AndPat x ps) a = (pat-larger x a.0, pats-larger ps a.1)

  mutual
    pat-stays : (x : CorePat ℕ) → AllPat (λ t. t < length p.trees) x → pat_map (tree q) x ≡ pat_map (tree p) x
    pat-stays (Pat s o b) a = ap (λ (r : PatShape Term). Pat r o b) (shape-stays s a)

    shape-stays : (s : PatShape ℕ) → AllShape (λ t. t < length p.trees) s → shape_map (tree q) s ≡ shape_map (tree p) s
    shape-stays (VarPat i) a = refl
    shape-stays (SolvedPat t) a = ap SolvedPat (Extends-tree t e a)
    shape-stays (DottedPat t) a = ap DottedPat (Extends-tree t e a)
    shape-stays (ConPat k ps) a = ap (ConPat k) (pats-stay ps a)
    shape-stays AbsurdPat a = refl
    shape-stays (ProjectionPat k) a = refl

    pats-stay : (ps : CorePats ℕ) → AllPats (λ t. t < length p.trees) ps → pats_map (tree q) ps ≡ pats_map (tree p) ps
    pats-stay NoPat a = refl
    pats-stay (AndPat x ps) a = ap₂ AndPat (pat-stays x a.0) (pats-stay ps a.1)

  list-stays : (xs : List (CorePat ℕ)) → AllPats (λ t. t < length p.trees) (pats_of xs) → map (pat_map (tree q)) xs ≡ map (pat_map (tree p)) xs
  list-stays [] a = refl
  list-stays (x ∷ xs) a = ap₂ (λ (y : CorePat Term) (ys : List (CorePat Term)). y ∷ ys) (pat-stays x a.0) (list-stays xs a.1)

  -- one more
  module _ (made new : List (CorePat ℕ)) (v : CorePat ℕ) (n : new ≡ made ++ v ∷ []) (b : AllPats (λ t. t < length p.trees) (pats_of made)) where
    pub pats-below : AllPat (λ t. t < length q.trees) v → AllPats (λ t. t < length q.trees) (pats_of new)
    pats-below l = rw n (pushed made (pats-larger (pats_of made) b))
      where
        pushed : (xs : List (CorePat ℕ)) → AllPats (λ t. t < length q.trees) (pats_of xs) → AllPats (λ t. t < length q.trees) (pats_of (xs ++ v ∷ []))
        pushed [] a = (l, tt)
        pushed (x ∷ xs) a = (a.0, pushed xs a.1)

    pub pats-next : (y : CorePat Term) (rest : CorePats Term) → pat_map (tree q) v ≡ y → joined (map (pat_map (tree q)) new) rest ≡ joined (map (pat_map (tree p)) made) (AndPat y rest)
    pats-next y rest is =
        ap (λ (xs : List (CorePat ℕ)). joined (map (pat_map (tree q)) xs) rest) n
        ∙ (ap (λ (ys : List (CorePat Term)). joined ys rest) (map-append (pat_map (tree q)) made (v ∷ []) ∙ ap₂ (λ (ys : List (CorePat Term)) (z : CorePat Term). ys ++ z ∷ []) (list-stays made b) is)
        ∙ joined-more (map (pat_map (tree p)) made) y rest)

pub joined-map : (f : ℕ → Term) (xs : List (CorePat ℕ)) → joined (map (pat_map f) xs) NoPat ≡ pats_map f (pats_of xs)
joined-map f [] = refl
joined-map f (x ∷ xs) = ap (AndPat (pat_map f x)) (joined-map f xs)

-- ---- how deep they are

pub size-at : (ps : List (CorePat ℕ)) (i : ℕ) (p : CorePat ℕ) → i < length ps → p ≡ get_or ps i p → pat_size p + 1 ≤ pats_size (pats_of ps)
size-at [] i p l e = absurd (omega (arith, l))
size-at (q ∷ ps) zero p l e = omega (arith, ap pat_size e)
size-at (q ∷ ps) (suc i) p l e = omega (arith, size-at ps i p (omega (arith, l)) e)

pub con-size : (i : Inside) (p : CorePat ℕ) (k : ℕ) (ps : Vec (CorePat ℕ) Global) → pat_of i ≡ p → i.shape ≡ C.Con k ps → pat_size p ≡ pats_size (pats_of ps.items)
con-size i p k ps e h = ap pat_size (sym e) ∙ ap (λ q. shape_size (shape_of q)) h
