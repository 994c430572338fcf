-- Each turn keeps the variables of the equations among those that are left, and one that solves leaves fewer.
use Rattle.std.specs.Prelude.{◌≡◌, ◌≢◌, ℕ, ◌+◌, ◌-◌, ◌<◌, ◌≤◌, ◌⊎◌, Bool, true, false, eqb, ltb, cond, List, [], ◌∷◌, ◌++◌, map, Some, refl, suc}
use Rattle.std.proofs.Common.{ap, subst as transport, arith, inl, inr, eqb-true}
use Rattle.std.proofs.lemmas.Grind.{common_steps}
use Rattle.core_rules.specs.Term.{Term, Terms, Var, Sort, Pi, Lam, App, Def, Fam, Con, Proj, Meta, End, And, occurs}
use Rattle.core_rules.specs.Substitution.{shift}
use Rattle.core_rules.specs.Elimination.{Elim, Arg}
use Rattle.core_rules.specs.Unification.{Equation, con_spine, Pairs, no_pair, pair, put, put_var, put_equation}
use Rattle.core_rules.proofs.Heads.OneAnswer.{one_some}
use Rattle.unify_rules.specs.Unifier.{Chosen, left_one, right_one, SameCon, same_con}
use Rattle.unify_rules.proofs.Only.{only, only_all, only-over, only-others, only-weaker, only_all-weaker}
use Rattle.unify_rules.proofs.HeadsOnly.{OnlyElims, only-shift}
use Rattle.unify_rules.proofs.Members.{Member, upto, upto-has}

-- the variables of the equations have P
abbrev pub EachOnly : (ℕ → Type 0) → List Equation → Type 0
EachOnly P [] = Unit {0}
EachOnly P (e ∷ es) = (only P 0 e.left × only P 0 e.right) × EachOnly P es

-- the variables of t are among those of js
abbrev pub Within : List ℕ → Term → Type 0
Within js t = only (λ i. Member i js) 0 t

abbrev pub AllWithin : List ℕ → List Equation → Type 0
AllWithin js es = EachOnly (λ i. Member i js) es

pub only-append : (P : ℕ → Type 0) (es ds : List Equation) → EachOnly P es → EachOnly P ds → EachOnly P (es ++ ds)
only-append P [] ds h k = k
only-append P (e ∷ es) ds h k = (h.0, only-append P es ds h.1 k)

module _ (P : ℕ → Type 0) where
  spine_only : (t : Term) (es : List Elim) (k : ℕ) (ds : List Elim) → con_spine t es ≡ Some (k, ds) → only P 0 t → OnlyElims P es → OnlyElims P ds
  spine_only (Con i ps) es k ds e h l = transport (OnlyElims P) (let f : (i, es) ≡ (k, ds) = one_some e in ap (λ p. p.1) f) l
  spine_only (App b t u) es k ds e h l = spine_only t (Arg b u ∷ es) k ds e h.0 (h.1, l)
  spine_only (Var i) es k ds e h l = absurd cc
  spine_only (Sort i) es k ds e h l = absurd cc
  spine_only (Pi b x a t) es k ds e h l = absurd cc
  spine_only (Lam b x a t) es k ds e h l = absurd cc
  spine_only (Def i) es k ds e h l = absurd cc
  spine_only (Fam i) es k ds e h l = absurd cc
  spine_only (Proj i t) es k ds e h l = absurd cc
  spine_only (Meta i ts) es k ds e h l = absurd cc

  pairs_only : {xs ys : List Elim} {qs : List Equation} → Pairs xs ys qs → OnlyElims P xs → OnlyElims P ys → EachOnly P qs
  pairs_only no_pair h k = tt
  pairs_only (pair p) h k = ((h.0, k.0), pairs_only p h.1 k.1)

  pub inject_only : (t u : Term) (qs : List Equation) → SameCon t u qs → only P 0 t → only P 0 u → EachOnly P qs
  inject_only t u qs (same_con {k = k} {xs = xs} {ys = ys} a b p) h l = pairs_only p (spine_only t [] k xs a h tt) (spine_only u [] k ys b l tt)

  -- the variable that is solved has P, and so have those of its value, which are others
  pub record CanBe (x : ℕ) (v : Term) : Type 0 where
    pub has : P x
    pub value : only (λ i. P i × (i ≡ x → ⊥)) 0 v

  others : (x : ℕ) (v : Term) → occurs x v ≡ false → only P 0 v → only (λ i. P i × (i ≡ x → ⊥)) 0 v
  others x v e h = let r : x ≡ x + 0 = omega arith in only-others P x 0 v h (transport (λ n. occurs n v ≡ false) r e)

  var_has : (x : ℕ) → only P 0 (Var x) → P x
  var_has x (inl l) = absurd (omega arith)
  var_has x (inr m) = let r : x - 0 ≡ x = omega arith in transport P r m

  pub can_be : {ts : List Term} (t u : Term) (x : ℕ) (v : Term) → Chosen ts t u x v → only P 0 t → only P 0 u → CanBe x v
  can_be _ _ _ _ (left_one {x = x} {u = u} c l) h k = record { has = var_has x h; value = others x u c.absent k }
  can_be _ _ _ _ (right_one {y = y} {t = t} c l) h k = record { has = var_has y k; value = others y t c.absent h }

module _ (P Q : ℕ → Type 0) (x : ℕ) (v : Term) (h : P x → only Q 0 v) (step : (i : ℕ) → P i → i ≢ x → Q i) where
  at_var : (d i : ℕ) → (i < d + 0) ⊎ P (i - (d + 0)) → only Q (d + 0) (put_var x v d i)
  at_var d i m = by (eqb i (x + d)) refl m
    where
      by : (b : Bool) → eqb i (x + d) ≡ b → (i < d + 0) ⊎ P (i - (d + 0)) → only Q (d + 0) (cond b (shift v 0 d) (Var i))
      by true e (inl l) = absurd (let q : i ≡ x + d = eqb-true i (x + d) e in omega arith)
      by true e (inr m) =
          let r : d ≡ d + 0 = omega arith in
          let q : i ≡ x + d = eqb-true i (x + d) e in
          let z : i - (d + 0) ≡ x = omega arith in
          transport (λ n. only Q n (shift v 0 d)) r (only-shift Q v d (h (transport P z m)))
      by false e (inl l) = inl l
      by false e (inr m) = low (ltb i d) refl
        where
          low : (b : Bool) → ltb i d ≡ b → (i < d + 0) ⊎ Q (i - (d + 0))
          low true f = inl (let l : i < d = grind (arith, common_steps) in omega arith)
          low false f = inr (step (i - (d + 0)) m (λ q. let l : d ≤ i = grind (arith, common_steps) in let s : i ≡ x + d = omega arith in let z : eqb i (x + d) ≡ true = grind (arith, common_steps) in cc))

  pub put-only : (t : Term) → only P 0 t → only Q 0 (put x v t)
  put-only t k = only-over P Q (put_var x v) 0 0 at_var 0 t k

  pub puts-only : (es : List Equation) → EachOnly P es → EachOnly Q (map (put_equation x v) es)
  puts-only [] k = tt
  puts-only (e ∷ es) k = ((put-only e.left k.0.0, put-only e.right k.0.1), puts-only es k.1)

-- the variables of a term are below a number
abbrev below : ℕ → ℕ → Type 0
below n i = i < n

more : (n m : ℕ) → n ≤ m → (d : ℕ) (t : Term) → only (below n) d t → only (below m) d t
more n m l d t h = only-weaker (below n) (below m) (λ i k. omega arith) d t h

more_all : (n m : ℕ) → n ≤ m → (d : ℕ) (ts : Terms) → only_all (below n) d ts → only_all (below m) d ts
more_all n m l d ts h = only_all-weaker (below n) (below m) (λ i k. omega arith) d ts h

mutual
  bounded : (d : ℕ) (t : Term) → (n : ℕ) × only (below n) d t
  bounded d (Var i) = (suc (i - d), inr (omega arith))
  bounded d (Sort n) = (0, tt)
  bounded d (Pi b x s t) = let p = bounded d s in let q = bounded (d + 1) t in (p.0 + q.0, (more p.0 (p.0 + q.0) (omega arith) d s p.1, more q.0 (p.0 + q.0) (omega arith) (d + 1) t q.1))
  bounded d (Lam b x s t) = let p = bounded d s in let q = bounded (d + 1) t in (p.0 + q.0, (more p.0 (p.0 + q.0) (omega arith) d s p.1, more q.0 (p.0 + q.0) (omega arith) (d + 1) t q.1))
  bounded d (App b t u) = let p = bounded d t in let q = bounded d u in (p.0 + q.0, (more p.0 (p.0 + q.0) (omega arith) d t p.1, more q.0 (p.0 + q.0) (omega arith) d u q.1))
  bounded d (Def k) = (0, tt)
  bounded d (Fam k) = (0, tt)
  bounded d (Con k ts) = bounded_all d ts
  bounded d (Proj k t) = bounded d t
  bounded d (Meta k ts) = bounded_all d ts

  bounded_all : (d : ℕ) (ts : Terms) → (n : ℕ) × only_all (below n) d ts
  bounded_all d End = (0, tt)
  bounded_all d (And t ts) = let p = bounded d t in let q = bounded_all d ts in (p.0 + q.0, (more p.0 (p.0 + q.0) (omega arith) d t p.1, more_all q.0 (p.0 + q.0) (omega arith) d ts q.1))

more_each : (n m : ℕ) → n ≤ m → (es : List Equation) → EachOnly (below n) es → EachOnly (below m) es
more_each n m l [] h = tt
more_each n m l (e ∷ es) h = ((more n m l 0 e.left h.0.0, more n m l 0 e.right h.0.1), more_each n m l es h.1)

each_bounded : (es : List Equation) → (n : ℕ) × EachOnly (below n) es
each_bounded [] = (0, tt)
each_bounded (e ∷ es) =
    let p = bounded 0 e.left in
    let q = bounded 0 e.right in
    let r = each_bounded es in
    let n = p.0 + q.0 + r.0 in
    (n, ((more p.0 n (omega arith) 0 e.left p.1, more q.0 n (omega arith) 0 e.right q.1), more_each r.0 n (omega arith) es r.1))

each_within : (n : ℕ) (es : List Equation) → EachOnly (below n) es → AllWithin (upto n) es
each_within n [] h = tt
each_within n (e ∷ es) h =
    ((only-weaker (below n) (λ i. Member i (upto n)) (λ i l. upto-has n i l) 0 e.left h.0.0, only-weaker (below n) (λ i. Member i (upto n)) (λ i l. upto-has n i l) 0 e.right h.0.1), each_within n es h.1)

-- the variables of equations are among finitely many
pub all_within : (es : List Equation) → (js : List ℕ) × AllWithin js es
all_within es = let b = each_bounded es in (upto b.0, each_within b.0 es b.1)
