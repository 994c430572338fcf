-- Laws of the one traversal: it goes by what it does to each variable, and it can start at any number of binders.
use Rattle.std.specs.Prelude.{◌≡◌, ℕ, ◌+◌, refl}
use Rattle.std.proofs.Common.{ap, add_assoc}
use Rattle.core_rules.specs.Term.{Term, Terms, Var, Sort, Pi, Lam, App, Def, Fam, Con, Proj, Meta, End, And}
use Rattle.core_rules.specs.Substitution.{over, over_all}

-- two changes that agree at each variable, each counted from a number of its own
module _ (f g : ℕ → ℕ → Term) (a b : ℕ) (e : (n i : ℕ) → f (a + n) i ≡ g (b + n) i) where
  next : (n : ℕ) (t : Term) → over f (a + (n + 1)) t ≡ over g (b + (n + 1)) t → over f (a + n + 1) t ≡ over g (b + n + 1) t
  next n t h = simp add_assoc h

  mutual
    pub over-from : (n : ℕ) (t : Term) → over f (a + n) t ≡ over g (b + n) t
    over-from n (Var i) = e n i
    over-from n (Sort i) = refl
    over-from n (Pi c x s t) = cc (over-from n s, next n t (over-from (n + 1) t))
    over-from n (Lam c x s t) = cc (over-from n s, next n t (over-from (n + 1) t))
    over-from n (App c t u) = cc (over-from n t, over-from n u)
    over-from n (Def i) = refl
    over-from n (Fam i) = refl
    over-from n (Con i ts) = ap (Con i) (over_all-from n ts)
    over-from n (Proj i t) = ap (Proj i) (over-from n t)
    over-from n (Meta i ts) = ap (Meta i) (over_all-from n ts)

    pub over_all-from : (n : ℕ) (ts : Terms) → over_all f (a + n) ts ≡ over_all g (b + n) ts
    over_all-from n End = refl
    over_all-from n (And t ts) = cc (over-from n t, over_all-from n ts)

-- two changes in turn are two others in turn, where they are so at each variable
module _ (f g h k : ℕ → ℕ → Term) (e : (d i : ℕ) → over f d (g d i) ≡ over h d (k d i)) where
  mutual
    pub over-swap : (d : ℕ) (t : Term) → over f d (over g d t) ≡ over h d (over k d t)
    over-swap d (Var i) = e d i
    over-swap d (Sort n) = refl
    over-swap d (Pi b x s t) = cc (over-swap d s, over-swap (d + 1) t)
    over-swap d (Lam b x s t) = cc (over-swap d s, over-swap (d + 1) t)
    over-swap d (App b t u) = cc (over-swap d t, over-swap d u)
    over-swap d (Def n) = refl
    over-swap d (Fam n) = refl
    over-swap d (Con n ts) = ap (Con n) (over_all-swap d ts)
    over-swap d (Proj n t) = ap (Proj n) (over-swap d t)
    over-swap d (Meta n ts) = ap (Meta n) (over_all-swap d ts)

    pub over_all-swap : (d : ℕ) (ts : Terms) → over_all f d (over_all g d ts) ≡ over_all h d (over_all k d ts)
    over_all-swap d End = refl
    over_all-swap d (And t ts) = cc (over-swap d t, over_all-swap d ts)

-- two changes in turn are one, where they are so at each variable
module _ (f g h : ℕ → ℕ → Term) (e : (d i : ℕ) → over f d (g d i) ≡ h d i) where
  mutual
    pub over-over : (d : ℕ) (t : Term) → over f d (over g d t) ≡ over h d t
    over-over d (Var i) = e d i
    over-over d (Sort n) = refl
    over-over d (Pi b x s t) = cc (over-over d s, over-over (d + 1) t)
    over-over d (Lam b x s t) = cc (over-over d s, over-over (d + 1) t)
    over-over d (App b t u) = cc (over-over d t, over-over d u)
    over-over d (Def k) = refl
    over-over d (Fam k) = refl
    over-over d (Con k ts) = ap (Con k) (over_all-over d ts)
    over-over d (Proj k t) = ap (Proj k) (over-over d t)
    over-over d (Meta k ts) = ap (Meta k) (over_all-over d ts)

    pub over_all-over : (d : ℕ) (ts : Terms) → over_all f d (over_all g d ts) ≡ over_all h d ts
    over_all-over d End = refl
    over_all-over d (And t ts) = cc (over-over d t, over_all-over d ts)

-- a change that leaves each variable as it is
module _ (f : ℕ → ℕ → Term) (e : (d i : ℕ) → f d i ≡ Var i) where
  mutual
    pub over_id : (d : ℕ) (t : Term) → over f d t ≡ t
    over_id d (Var i) = e d i
    over_id d (Sort n) = refl
    over_id d (Pi b x s t) = cc (over_id d s, over_id (d + 1) t)
    over_id d (Lam b x s t) = cc (over_id d s, over_id (d + 1) t)
    over_id d (App b t u) = cc (over_id d t, over_id d u)
    over_id d (Def k) = refl
    over_id d (Fam k) = refl
    over_id d (Con k ts) = ap (Con k) (over_all_id d ts)
    over_id d (Proj k t) = ap (Proj k) (over_id d t)
    over_id d (Meta k ts) = ap (Meta k) (over_all_id d ts)

    pub over_all_id : (d : ℕ) (ts : Terms) → over_all f d ts ≡ ts
    over_all_id d End = refl
    over_all_id d (And t ts) = cc (over_id d t, over_all_id d ts)
