-- Terms all of whose variables have a property.
use Rattle.std.specs.Prelude.{◌≡◌, ℕ, ◌+◌, ◌-◌, ◌<◌, ◌≤◌, ◌⊎◌, Bool, true, false, ◌||◌, eqb, ltb, refl}
use Rattle.std.proofs.Common.{ap, subst as transport, arith, inl, inr}
use Rattle.std.proofs.lemmas.Grind.{common_steps}
use Rattle.core_rules.specs.Term.{Term, Terms, Var, Sort, Pi, Lam, App, Def, Fam, Con, Proj, Meta, End, And, occurs, occurs_in}
use Rattle.core_rules.specs.Substitution.{over, over_all}

-- each variable of t that stands under d binders, counted from there, is one of P
abbrev mutual
  pub only : (ℕ → Type 0) → ℕ → Term → Type 0
  only P d (Var i) = (i < d) ⊎ P (i - d)
  only P d (Sort n) = Unit {0}
  only P d (Pi b x s t) = only P d s × only P (d + 1) t
  only P d (Lam b x s t) = only P d s × only P (d + 1) t
  only P d (App b t u) = only P d t × only P d u
  only P d (Def f) = Unit {0}
  only P d (Fam n) = Unit {0}
  only P d (Con c ts) = only_all P d ts
  only P d (Proj f t) = only P d t
  only P d (Meta m ts) = only_all P d ts

  pub only_all : (ℕ → Type 0) → ℕ → Terms → Type 0
  only_all P d End = Unit {0}
  only_all P d (And t ts) = only P d t × only_all P d ts

-- two changes that agree at the variables of P
module _ (P : ℕ → Type 0) (f g : ℕ → ℕ → Term) (e : (d i : ℕ) → (i < d) ⊎ P (i - d) → f d i ≡ g d i) where
  mutual
    pub over-only : (d : ℕ) (t : Term) → only P d t → over f d t ≡ over g d t
    over-only d (Var i) h = e d i h
    over-only d (Sort n) h = refl
    over-only d (Pi b x s t) h = cc (over-only d s h.0, over-only (d + 1) t h.1)
    over-only d (Lam b x s t) h = cc (over-only d s h.0, over-only (d + 1) t h.1)
    over-only d (App b t u) h = cc (over-only d t h.0, over-only d u h.1)
    over-only d (Def k) h = refl
    over-only d (Fam k) h = refl
    over-only d (Con k ts) h = ap (Con k) (over_all-only d ts h)
    over-only d (Proj k t) h = ap (Proj k) (over-only d t h)
    over-only d (Meta k ts) h = ap (Meta k) (over_all-only d ts h)

    over_all-only : (d : ℕ) (ts : Terms) → only_all P d ts → over_all f d ts ≡ over_all g d ts
    over_all-only d End h = refl
    over_all-only d (And t ts) h = cc (over-only d t h.0, over_all-only d ts h.1)

-- a change of the variables of P, which stand a further binders deep, gives terms of Q, which stand b binders deep
module _ (P Q : ℕ → Type 0) (f : ℕ → ℕ → Term) (a b : ℕ) (e : (d i : ℕ) → (i < d + a) ⊎ P (i - (d + a)) → only Q (d + b) (f d i)) where
  next : (d : ℕ) (t : Term) → (only P (d + 1 + a) t → only Q (d + 1 + b) (over f (d + 1) t)) → only P (d + a + 1) t → only Q (d + b + 1) (over f (d + 1) t)
  next d t h k =
      let x : d + a + 1 ≡ d + 1 + a = omega arith in
      let y : d + 1 + b ≡ d + b + 1 = omega arith in
      transport (λ n. only Q n (over f (d + 1) t)) y (h (transport (λ n. only P n t) x k))

  mutual
    pub only-over : (d : ℕ) (t : Term) → only P (d + a) t → only Q (d + b) (over f d t)
    only-over d (Var i) h = e d i h
    only-over d (Sort n) h = tt
    only-over d (Pi c x s t) h = (only-over d s h.0, next d t (only-over (d + 1) t) h.1)
    only-over d (Lam c x s t) h = (only-over d s h.0, next d t (only-over (d + 1) t) h.1)
    only-over d (App c t u) h = (only-over d t h.0, only-over d u h.1)
    only-over d (Def k) h = tt
    only-over d (Fam k) h = tt
    only-over d (Con k ts) h = only_all-over d ts h
    only-over d (Proj k t) h = only-over d t h
    only-over d (Meta k ts) h = only_all-over d ts h

    only_all-over : (d : ℕ) (ts : Terms) → only_all P (d + a) ts → only_all Q (d + b) (over_all f d ts)
    only_all-over d End h = tt
    only_all-over d (And t ts) h = (only-over d t h.0, only_all-over d ts h.1)

-- the variables of t under d binders that are others than x have P, where x does not occur
module _ (P : ℕ → Type 0) (x : ℕ) where
  abbrev pub Other : ℕ → Type 0
  Other i = P i × (i ≡ x → ⊥)

  or_false : (a b : Bool) → a || b ≡ false → (a ≡ false) × (b ≡ false)
  or_false true b e = absurd cc
  or_false false b e = (refl, e)

  shifted : (d i : ℕ) → (i < d) ⊎ P (i - d) → eqb i (x + d) ≡ false → (i < d) ⊎ Other (i - d)
  shifted d i (inl l) e = inl l
  shifted d i (inr p) e = by (ltb i d) refl
    where
      by : (b : Bool) → ltb i d ≡ b → (i < d) ⊎ Other (i - d)
      by true f = inl (grind (arith, common_steps))
      by false f = inr (p, λ q. let l : d ≤ i = grind (arith, common_steps) in let r : i ≡ x + d = omega arith in let s : eqb i (x + d) ≡ true = grind (arith, common_steps) in cc)

  deeper : (d : ℕ) (t : Term) → occurs (x + d + 1) t ≡ false → occurs (x + (d + 1)) t ≡ false
  deeper d t e = let r : x + d + 1 ≡ x + (d + 1) = omega arith in transport (λ n. occurs n t ≡ false) r e

  mutual
    pub only-others : (d : ℕ) (t : Term) → only P d t → occurs (x + d) t ≡ false → only Other d t
    only-others d (Var i) h e = shifted d i h e
    only-others d (Sort n) h e = tt
    only-others d (Pi c y s t) h e = let o = or_false (occurs (x + d) s) (occurs (x + d + 1) t) e in (only-others d s h.0 o.0, only-others (d + 1) t h.1 (deeper d t o.1))
    only-others d (Lam c y s t) h e = let o = or_false (occurs (x + d) s) (occurs (x + d + 1) t) e in (only-others d s h.0 o.0, only-others (d + 1) t h.1 (deeper d t o.1))
    only-others d (App c t u) h e = let o = or_false (occurs (x + d) t) (occurs (x + d) u) e in (only-others d t h.0 o.0, only-others d u h.1 o.1)
    only-others d (Def k) h e = tt
    only-others d (Fam k) h e = tt
    only-others d (Con k ts) h e = only_all-others d ts h e
    only-others d (Proj k t) h e = only-others d t h e
    only-others d (Meta k ts) h e = only_all-others d ts h e

    only_all-others : (d : ℕ) (ts : Terms) → only_all P d ts → occurs_in (x + d) ts ≡ false → only_all Other d ts
    only_all-others d End h e = tt
    only_all-others d (And t ts) h e = let o = or_false (occurs (x + d) t) (occurs_in (x + d) ts) e in (only-others d t h.0 o.0, only_all-others d ts h.1 o.1)

-- a weaker property
module _ (P Q : ℕ → Type 0) (h : (i : ℕ) → P i → Q i) where
  weaker_var : (d i : ℕ) → (i < d) ⊎ P (i - d) → (i < d) ⊎ Q (i - d)
  weaker_var d i (inl l) = inl l
  weaker_var d i (inr p) = inr (h (i - d) p)

  mutual
    pub only-weaker : (d : ℕ) (t : Term) → only P d t → only Q d t
    only-weaker d (Var i) k = weaker_var d i k
    only-weaker d (Sort n) k = tt
    only-weaker d (Pi c y s t) k = (only-weaker d s k.0, only-weaker (d + 1) t k.1)
    only-weaker d (Lam c y s t) k = (only-weaker d s k.0, only-weaker (d + 1) t k.1)
    only-weaker d (App c t u) k = (only-weaker d t k.0, only-weaker d u k.1)
    only-weaker d (Def i) k = tt
    only-weaker d (Fam i) k = tt
    only-weaker d (Con i ts) k = only_all-weaker d ts k
    only-weaker d (Proj i t) k = only-weaker d t k
    only-weaker d (Meta i ts) k = only_all-weaker d ts k

    pub only_all-weaker : (d : ℕ) (ts : Terms) → only_all P d ts → only_all Q d ts
    only_all-weaker d End k = tt
    only_all-weaker d (And t ts) k = (only-weaker d t k.0, only_all-weaker d ts k.1)
