-- Lists of ids and of entries as they grow, and as the pool grows.
use Rattle.std.proofs.Common.{◌≡◌, ◌<◌, ℕ, zero, suc, ◌+◌, List, [], ◌∷◌, ◌++◌, length, map, append_assoc, refl, sym, ap, subst, ◌∙◌, arith}
use Rattle.std.specs.List.{AllByRecursion}
use Rattle.std.proofs.lemmas.List.{map-append}
use Rattle.el_base.proofs.Throughout.{all-append, all-weaker}
use Rattle.core_rules.specs.Term.{Term, Var}
use Rattle.core_rules.specs.Substitution.{shift}
use Rattle.core_rules.specs.Signature.{numbers}
use Rattle.core_rules.specs.TypedTree.{vars}
use Rattle.term_pool.specs.Pool.{Pool, Extends, StandsFor, tree}
use Rattle.term_pool.specs.Growth.{Extends-length, Extends-tree}
use Rattle.term_pool.specs.Placed.{items-stay}
use Rattle.tree_kernel.specs.Stand.{Stand}

pub ids-weaker : (p q : Pool) (xs : List ℕ) → Extends p q → AllByRecursion (λ i. i < length p.trees) xs → AllByRecursion (λ i. i < length q.trees) xs
ids-weaker p q xs e a = all-weaker _ _ (λ (i : ℕ) (l : i < length p.trees). omega (arith, Extends-length e, l)) xs a

pub stand-none : (p : Pool) (xs : List ℕ) → xs ≡ [] → Stand p xs []
stand-none p xs e = subst (λ (ys : List ℕ). Stand p ys []) (sym e) (record { below = tt; is = refl })

pub stand-more : (p q : Pool) (xs : List ℕ) (ts : List Term) → Extends p q → Stand p xs ts → Stand q xs ts
stand-more p q xs ts e s = record { below = ids-weaker p q xs e s.below; is = items-stay p q xs e s.below ∙ s.is }

pub stand-append : (p : Pool) (xs ys new : List ℕ) (ts us : List Term) → new ≡ xs ++ ys → Stand p xs ts → Stand p ys us → Stand p new (ts ++ us)
stand-append p xs ys new ts us n s t = subst (λ (zs : List ℕ). Stand p zs (ts ++ us)) (sym n) (record {
  below = all-append (λ i. i < length p.trees) xs ys s.below t.below;
  is = map-append (tree p) xs ys ∙ (ap (λ (vs : List Term). vs ++ map (tree p) ys) s.is ∙ ap (λ (vs : List Term). ts ++ vs) t.is);
})

pub stand-one : (p : Pool) (i : ℕ) (t : Term) → StandsFor p i t → Stand p (i ∷ []) (t ∷ [])
stand-one p i t s = record { below = (s.within, tt); is = ap (λ (u : Term). u ∷ []) s.is }

pub stand-push : (p : Pool) (xs new : List ℕ) (i : ℕ) (ts : List Term) (t : Term) → new ≡ xs ++ i ∷ [] → Stand p xs ts → StandsFor p i t
    → Stand p new (ts ++ t ∷ [])
stand-push p xs new i ts t n s h = stand-append p xs (i ∷ []) new ts (t ∷ []) n s (stand-one p i t h)

numbers-next : (k n : ℕ) → numbers k (suc n) ≡ numbers k n ++ (k + n) ∷ []
numbers-next k zero = let e : k ≡ k + 0 = omega arith in ap (λ (i : ℕ). i ∷ []) e
numbers-next k (suc n) =
    let e : k + 1 + n ≡ k + suc n = omega arith in
    ap (λ (is : List ℕ). k ∷ is) (numbers-next (k + 1) n ∙ ap (λ (i : ℕ). numbers (k + 1) n ++ i ∷ []) e)

pub vars-next : (k n : ℕ) → vars k (n + 1) ≡ vars k n ++ Var (k + n) ∷ []
vars-next k n = let e : n + 1 ≡ suc n = omega arith in ap (vars k) e ∙ (ap (map Var) (numbers-next k n) ∙ map-append Var (numbers k n) ((k + n) ∷ []))

-- the terms that are left, each raised, after those that were taken
pub raised-next : (by : ℕ) (W ts left more : List Term) (t : Term) → left ≡ t ∷ more → ts ++ map (λ t. shift t 0 by) left ≡ W
    → (ts ++ shift t 0 by ∷ []) ++ map (λ t. shift t 0 by) more ≡ W
raised-next by W ts left more t e h =
    append_assoc ts (shift t 0 by ∷ []) (map (λ t. shift t 0 by) more) ∙ (ap (λ (us : List Term). ts ++ map (λ t. shift t 0 by) us) (sym e) ∙ h)

pub append-none : (ts : List Term) → ts ++ [] ≡ ts
append-none [] = refl
append-none (t ∷ ts) = ap (λ (us : List Term). t ∷ us) (append-none ts)

-- of all the terms these are left, and the others are in the list, raised
pub record Raises (p q : Pool) (by : ℕ) (old new all left : List ℕ) : Type 0 where
  pub below : AllByRecursion (λ i. i < length p.trees) left
  pub is : (ts : List Term) → Stand p old ts → (us : List Term) × Stand q new us
      × (us ++ map (λ t. shift t 0 by) (map (tree p) left) ≡ ts ++ map (λ t. shift t 0 by) (map (tree p) all))

pub raises-first : (p : Pool) (by : ℕ) (old all : List ℕ) → AllByRecursion (λ i. i < length p.trees) all → Raises p p by old old all all
raises-first p by old all h = record { below = h; is = λ ts s. (ts, s, refl) }

pub raises-next : (p q r : Pool) (by : ℕ) (old xs new all left more : List ℕ) (i j : ℕ) → Raises p q by old xs all left → Extends p q → Extends q r
    → left ≡ i ∷ more → new ≡ xs ++ j ∷ [] → StandsFor r j (shift (tree q i) 0 by) → Raises p r by old new all more
raises-next p q r by old xs new all left more i j h e k l n s =
    let b : AllByRecursion (λ i. i < length p.trees) (i ∷ more) = subst (AllByRecursion (λ i. i < length p.trees)) l h.below in
    record {
      below = b.1;
      is = λ ts t.
          let u = h.is ts t in
          let s' : StandsFor r j (shift (tree p i) 0 by) = subst (λ (w : Term). StandsFor r j (shift w 0 by)) (Extends-tree i e b.0) s in (
            u.0 ++ shift (tree p i) 0 by ∷ [],
            stand-push r xs new j u.0 (shift (tree p i) 0 by) n (stand-more q r xs u.0 k u.1) s',
            raised-next by (ts ++ map (λ t. shift t 0 by) (map (tree p) all)) u.0 (map (tree p) left) (map (tree p) more) (tree p i) (ap (map (tree p)) l) u.2,
          );
    }

pub raises-all : (p q : Pool) (by : ℕ) (old new all left : List ℕ) → left ≡ [] → Raises p q by old new all left → (ts : List Term) → Stand p old ts
    → Stand q new (ts ++ map (λ t. shift t 0 by) (map (tree p) all))
raises-all p q by old new all left e h ts s =
    let u = h.is ts s in
    let a : u.0 ++ map (λ t. shift t 0 by) (map (tree p) left) ≡ u.0 = ap (λ (l : List ℕ). u.0 ++ map (λ t. shift t 0 by) (map (tree p) l)) e
    ∙ append-none u.0 in
    subst (Stand q new) (sym a ∙ u.2) u.1
