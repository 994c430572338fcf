-- Sorts, families and constructors are told apart by the head to which a term comes at arguments, flags left out. A relation between terms,
-- by a number of steps, says that one comes to a head wherever the other does at related arguments. Each rule of conversion keeps it both ways.
use Rattle.std.specs.Prelude.{◌≡◌, ℕ, ◌⊎◌, ◌<◌, ◌≤◌, List, [], ◌∷◌, ◌++◌, Some, None, refl, zero, suc}
use Rattle.std.proofs.Common.{ap, sym, ◌∙◌, subst as transport, arith, ⊎_elim}
use Rattle.core_rules.specs.declared.Flag.{Flag}
use Rattle.core_rules.specs.Term.{Term, Var, Sort, Pi, Lam, App, Def, Fam, Con, Proj, Meta}
use Rattle.core_rules.specs.Substitution.{over, shift, subst}
use Rattle.core_rules.specs.Signature.{Signature}
use Rattle.core_rules.specs.Conversion as C
use Rattle.core_rules.specs.Conversion.{Conv}
use Rattle.core_rules.specs.Separation.{IsInert}
use Rattle.core_rules.proofs.Apart.Substituted.{Env, sub_var, sub, cons, sub_id, sub_variable, sub_under, sub_beta, sub_eta}

-- the head that is looked for
pub data Target : Type 0 where
  a_sort : ℕ → Target
  a_family : ℕ → Target
  a_constructor : ℕ → Target

abbrev pub IsAt : Term → Target → Type 0
IsAt (Sort m) (a_sort n) = n ≡ m
IsAt (Sort m) _ = ⊥
IsAt (Fam e) (a_family d) = d ≡ e
IsAt (Fam e) _ = ⊥
IsAt (Con k ts) (a_constructor j) = j ≡ k
IsAt (Con k ts) _ = ⊥
IsAt (Var i) p = ⊥
IsAt (Pi b x a t) p = ⊥
IsAt (Lam b x a t) p = ⊥
IsAt (App b t u) p = ⊥
IsAt (Def f) p = ⊥
IsAt (Proj f t) p = ⊥
IsAt (Meta m ts) p = ⊥

-- a term that comes to no head. Where arguments run out it is taken for one
abbrev pub dummy : Term
dummy = Proj 0 (Sort 0)

-- neither an application nor a lambda
abbrev Plain : Term → Type 0
Plain (App b t u) = ⊥
Plain (Lam b x a t) = ⊥
Plain (Var i) = Unit {0}
Plain (Sort n) = Unit {0}
Plain (Pi b x a t) = Unit {0}
Plain (Def f) = Unit {0}
Plain (Fam d) = Unit {0}
Plain (Con k ts) = Unit {0}
Plain (Proj f t) = Unit {0}
Plain (Meta m ts) = Unit {0}

module _ (p : Target) where
  -- t at the arguments vs comes to the head in so many steps
  pub data Reach : Term → List Term → ℕ → Type 0 where
    here : {t : Term} {vs : List Term} → IsAt t p → Reach t vs 0
    unwind : {b : Flag} {t u : Term} {vs : List Term} {n : ℕ} → Reach t (u ∷ vs) n → Reach (App b t u) vs n
    enter : {b : Flag} {x : ℕ} {a t v : Term} {vs : List Term} {n : ℕ} → Reach (subst t 0 v) vs n → Reach (Lam b x a t) (v ∷ vs) (suc n)
    alone : {b : Flag} {x : ℕ} {a t : Term} {n : ℕ} → Reach (subst t 0 dummy) [] n → Reach (Lam b x a t) [] (suc n)

  -- terms of two lists are related place by place
  abbrev AllOf : (Term → Term → Type 0) → List Term → List Term → Type 0
  AllOf R [] [] = Unit {0}
  AllOf R (v ∷ vs) (w ∷ ws) = R v w × AllOf R vs ws
  AllOf R _ _ = ⊥

  -- u comes to the head wherever t does in less than k steps, at arguments that are related for fewer
  abbrev pub Below : ℕ → Term → Term → Type 0
  Below zero t u = Unit {0}
  Below (suc k) t u = Below k t u × ((vs ws : List Term) → AllOf (Below k) vs ws → (n : ℕ) → n ≤ k → Reach t vs n → (m : ℕ) × Reach u ws m)

  abbrev Step : ℕ → Term → Term → Type 0
  Step k t u = (vs ws : List Term) → AllOf (Below k) vs ws → (n : ℕ) → n ≤ k → Reach t vs n → (m : ℕ) × Reach u ws m

  below_of : (k : ℕ) (t u : Term) → ((j : ℕ) → j < k → Step j t u) → Below k t u
  below_of zero t u h = tt
  below_of (suc k) t u h = (below_of k t u (λ j l. h j (omega (arith, l))), h k (omega arith))

  split : (j k : ℕ) → j < suc k → (j ≡ k) ⊎ (j < k)
  split j k h = grind arith

  step_at : (k j : ℕ) (t u : Term) → Below k t u → j < k → Step j t u
  step_at zero j t u h l = absurd (omega arith)
  step_at (suc k) j t u h l = ⊎_elim (λ e. transport (λ j. Step j t u) (sym e) h.1) (λ l. step_at k j t u h.0 l) (split j k l)

  below_less : (j k : ℕ) (t u : Term) → j ≤ k → Below k t u → Below j t u
  below_less j k t u l h = below_of j t u (λ i m. step_at k i t u h (omega (arith, l, m)))

  all_less : (j k : ℕ) (vs ws : List Term) → j ≤ k → AllOf (Below k) vs ws → AllOf (Below j) vs ws
  all_less j k [] [] l h = tt
  all_less j k (v ∷ vs) (w ∷ ws) l h = (below_less j k v w l h.0, all_less j k vs ws l h.1)
  all_less j k [] (w ∷ ws) l h = absurd h
  all_less j k (v ∷ vs) [] l h = absurd h

  -- what comes to no head is below everything
  nowhere : (k : ℕ) (t u : Term) → ((vs : List Term) (n : ℕ) → Reach t vs n → ⊥) → Below k t u
  nowhere k t u h = below_of k t u (λ j l vs ws a n m r. absurd (h vs n r))

  dummy_nowhere : (vs : List Term) (n : ℕ) → Reach dummy vs n → ⊥
  dummy_nowhere vs n (here h) = h

  below_dummy : (k : ℕ) → Below k dummy dummy
  below_dummy k = nowhere k dummy dummy dummy_nowhere

  -- a term at a head, and another one there
  at_head : (k : ℕ) (t u : Term) → (IsAt t p → IsAt u p) → ((vs : List Term) (n : ℕ) → Reach t vs n → IsAt t p) → Below k t u
  at_head k t u h only = below_of k t u (λ j l vs ws a n m r. (0, here (h (only vs n r))))

  applied : (k : ℕ) (b : Flag) (t t' u u' : Term) → Below k t t' → Below k u u' → Below k (App b t u) (App b t' u')
  applied k b t t' u u' h g = below_of k (App b t u) (App b t' u') (λ j l vs ws a n m r. go j l vs ws a n m r)
    where
      go : (j : ℕ) → j < k → (vs ws : List Term) → AllOf (Below j) vs ws → (n : ℕ) → n ≤ j → Reach (App b t u) vs n → (m : ℕ) × Reach (App b t' u') ws m
      go j l vs ws a n m (unwind r) = let x = step_at k j t t' h l (u ∷ vs) (u' ∷ ws) (below_less j k u u' (omega (arith, l)) g, a) n m r in (x.0, unwind x.1)
      go j l vs ws a n m (here e) = absurd e

  abbrev Rel : Env → Env → ℕ → Type 0
  Rel s q k = (i : ℕ) → Below k (s i) (q i)

  rel_less : (s q : Env) (j k : ℕ) → j ≤ k → Rel s q k → Rel s q j
  rel_less s q j k l h i = below_less j k (s i) (q i) l (h i)

  rel_cons : (s q : Env) (k : ℕ) (v w : Term) → Below k v w → Rel s q k → Rel (cons v s) (cons w q) k
  rel_cons s q k v w b h zero = b
  rel_cons s q k v w b h (suc i) = h i

  -- t with related terms put in is below u
  abbrev pub Under : Term → Term → Type 0
  Under t u = (k : ℕ) (s q : Env) → Rel s q k → Below k (sub s t) (sub q u)

  lambdas : (b c : Flag) (x y : ℕ) (a a' t u : Term) → Under t u → Under (Lam b x a t) (Lam c y a' u)
  lambdas b c x y a a' t u h k s q r = below_of k (sub s (Lam b x a t)) (sub q (Lam c y a' u)) (λ j l vs ws e n m z. go j l vs ws e n m z)
    where
      go : (j : ℕ) → j < k → (vs ws : List Term) → AllOf (Below j) vs ws → (n : ℕ) → n ≤ j → Reach (sub s (Lam b x a t)) vs n → (m : ℕ) × Reach (sub q (Lam c y a' u)) ws m
      go j l (v ∷ vs) (w ∷ ws) e (suc n) m (enter z) =
          let y = step_at (suc n) n (sub (cons v s) t) (sub (cons w q) u)
          (h (suc n) (cons v s) (cons w q) (rel_cons s q (suc n) v w (below_less (suc n) j v w m e.0) (rel_less s q (suc n) k (omega (arith, l, m)) r))) (omega arith)
          vs ws (all_less n j vs ws (omega (arith, m)) e.1) n (omega arith) (transport (λ t. Reach t vs n) (sub_under s t v) z) in
          (suc y.0, enter (transport (λ t. Reach t ws y.0) (sym (sub_under q u w)) y.1))
      go j l [] [] e (suc n) m (alone z) =
          let y = step_at (suc n) n (sub (cons dummy s) t) (sub (cons dummy q) u)
          (h (suc n) (cons dummy s) (cons dummy q) (rel_cons s q (suc n) dummy dummy (below_dummy (suc n)) (rel_less s q (suc n) k (omega (arith, l, m)) r))) (omega arith)
          [] [] tt n (omega arith) (transport (λ t. Reach t [] n) (sub_under s t dummy) z) in
          (suc y.0, alone (transport (λ t. Reach t [] y.0) (sym (sub_under q u dummy)) y.1))
      go j l (v ∷ vs) [] e n m z = absurd e
      go j l [] (w ∷ ws) e n m z = absurd e
      go j l (v ∷ vs) (w ∷ ws) e n m (here z) = absurd z
      go j l [] [] e n m (here z) = absurd z

  -- what has no arguments that count
  constant : (t : Term) (vs : List Term) (n : ℕ) → Plain t → Reach t vs n → IsAt t p
  constant t vs n h (here e) = e
  constant t vs n h (unwind r) = absurd h
  constant t vs n h (enter r) = absurd h
  constant t vs n h (alone r) = absurd h

  none_at : (t : Term) → Plain t → (IsAt t p → ⊥) → (vs : List Term) (n : ℕ) → Reach t vs n → ⊥
  none_at t h e vs n r = e (constant t vs n h r)

  mutual
    pub fund : (t : Term) → Under t t
    fund (Var i) k s q r = transport (λ t. Below k t (sub q (Var i))) (sym (sub_variable s i)) (transport (Below k (s i)) (sym (sub_variable q i)) (r i))
    fund (Sort n) k s q r = at_head k (Sort n) (Sort n) (λ e. e) (λ vs m z. constant (Sort n) vs m tt z)
    fund (Pi b x a t) k s q r = nowhere k (sub s (Pi b x a t)) (sub q (Pi b x a t)) (none_at (sub s (Pi b x a t)) tt (λ e. e))
    fund (Lam b x a t) k s q r = lambdas b b x x a a t t (fund t) k s q r
    fund (App b t u) k s q r = applied k b (sub s t) (sub q t) (sub s u) (sub q u) (fund t k s q r) (fund u k s q r)
    fund (Def f) k s q r = nowhere k (Def f) (Def f) (none_at (Def f) tt (λ e. e))
    fund (Fam d) k s q r = at_head k (Fam d) (Fam d) (λ e. e) (λ vs m z. constant (Fam d) vs m tt z)
    fund (Con c ts) k s q r = at_head k (sub s (Con c ts)) (sub q (Con c ts)) (λ e. e) (λ vs m z. constant (sub s (Con c ts)) vs m tt z)
    fund (Proj f t) k s q r = nowhere k (sub s (Proj f t)) (sub q (Proj f t)) (none_at (sub s (Proj f t)) tt (λ e. e))
    fund (Meta m ts) k s q r = nowhere k (sub s (Meta m ts)) (sub q (Meta m ts)) (none_at (sub s (Meta m ts)) tt (λ e. e))

  pub own : (k : ℕ) → Rel Var Var k
  own k i = nowhere k (Var i) (Var i) (none_at (Var i) tt (λ e. e))

  itself : (k : ℕ) (t : Term) → Below k t t
  itself k t = transport (λ u. Below k u u) (sub_id t) (fund t k Var Var (own k))

  all_itself : (k : ℕ) (vs : List Term) → AllOf (Below k) vs vs
  all_itself k [] = tt
  all_itself k (v ∷ vs) = (itself k v, all_itself k vs)

  -- the second is below the third at every number, since nothing bounds its steps
  chained : (k : ℕ) (t u v : Term) → Below k t u → ((i : ℕ) → Below i u v) → Below k t v
  chained k t u v h g = below_of k t v (λ j l vs ws a n m r.
      let x = step_at k j t u h l vs ws a n m r in
      step_at (suc x.0) x.0 u v (g (suc x.0)) (omega arith) ws ws (all_itself x.0 ws) x.0 (omega arith) x.1)

  beta_forth : (b : Flag) (x : ℕ) (a t u : Term) → Under (App b (Lam b x a t) u) (subst t 0 u)
  beta_forth b x a t u k s q r = below_of k (sub s (App b (Lam b x a t) u)) (sub q (subst t 0 u)) (λ j l vs ws e n m z. go j l vs ws e n m z)
    where
      go : (j : ℕ) → j < k → (vs ws : List Term) → AllOf (Below j) vs ws → (n : ℕ) → n ≤ j → Reach (sub s (App b (Lam b x a t) u)) vs n → (m : ℕ) × Reach (sub q (subst t 0 u)) ws m
      go j l vs ws e (suc n) m (unwind (enter z)) =
          let c = fund t (suc n) (cons (sub s u) s) (cons (sub q u) q) (rel_cons s q (suc n) (sub s u) (sub q u) (below_less (suc n) k (sub s u) (sub q u) (omega (arith, l, m)) (fund u k s q r)) (rel_less s q (suc n) k (omega (arith, l, m)) r)) in
          let y = step_at (suc n) n (sub (cons (sub s u) s) t) (sub (cons (sub q u) q) t) c (omega arith) vs ws (all_less n j vs ws (omega (arith, m)) e) n (omega arith) (transport (λ t. Reach t vs n) (sub_under s t (sub s u)) z) in
          (y.0, transport (λ t. Reach t ws y.0) (sym (sub_beta q t u)) y.1)
      go j l vs ws e n m (unwind (here z)) = absurd z
      go j l vs ws e n m (here z) = absurd z

  beta_back : (b : Flag) (x : ℕ) (a t u : Term) → Under (subst t 0 u) (App b (Lam b x a t) u)
  beta_back b x a t u k s q r = below_of k (sub s (subst t 0 u)) (sub q (App b (Lam b x a t) u)) (λ j l vs ws e n m z.
      let c = fund t k (cons (sub s u) s) (cons (sub q u) q) (rel_cons s q k (sub s u) (sub q u) (fund u k s q r) r) in
      let y = step_at k j (sub (cons (sub s u) s) t) (sub (cons (sub q u) q) t) c l vs ws e n m (transport (λ t. Reach t vs n) (sub_beta s t u) z) in
      (suc y.0, unwind (enter (transport (λ t. Reach t ws y.0) (sym (sub_under q t (sub q u))) y.1))))

  -- a dummy more, or less
  longer : {t : Term} {vs : List Term} {n : ℕ} → Reach t vs n → Reach t (vs ++ dummy ∷ []) n
  longer (here e) = here e
  longer (unwind r) = unwind (longer r)
  longer (enter r) = enter (longer r)
  longer (alone r) = enter r

  first_same : {v w : Term} {vs ws : List Term} → ◌≡◌ {A = List Term} (v ∷ vs) (w ∷ ws) → (v ≡ w) × (vs ≡ ws)
  first_same {v} {w} {vs} {ws} e = let a : v ≡ w = cc e in let b : vs ≡ ws = cc e in (a, b)

  shorter : {t : Term} {ds : List Term} {n : ℕ} (vs : List Term) → Reach t ds n → ds ≡ vs ++ dummy ∷ [] → Reach t vs n
  shorter vs (here e) q = here e
  shorter vs (unwind {u = u} r) q = unwind (shorter (u ∷ vs) r (ap (λ l. u ∷ l) q))
  shorter [] (enter {t = t} {vs = ds} {n = n} r) q =
      let e = first_same q in
      alone (transport (λ l. Reach (subst t 0 dummy) l n) e.1 (transport (λ v. Reach (subst t 0 v) ds n) e.0 r))
  shorter (w ∷ vs) (enter {t = t} {n = n} r) q =
      let e = first_same q in
      enter (transport (λ v. Reach (subst t 0 v) vs n) e.0 (shorter vs r e.1))
  shorter [] (alone r) q = absurd cc
  shorter (w ∷ vs) (alone r) q = absurd cc

  eta_forth : (b : Flag) (x : ℕ) (a t : Term) → Under t (Lam b x a (App b (shift t 0 1) (Var 0)))
  eta_forth b x a t k s q r = below_of k (sub s t) (sub q (Lam b x a (App b (shift t 0 1) (Var 0)))) (λ j l vs ws e n m z. go j l vs ws e n m z)
    where
      entered : (w : Term) (ws : List Term) (m : ℕ) → Reach (sub q t) (w ∷ ws) m → Reach (subst (over (sub_var q) 1 (App b (shift t 0 1) (Var 0))) 0 w) ws m
      entered w ws m z = transport (λ u. Reach u ws m) (sym (sub_eta q b t w)) (unwind z)

      go : (j : ℕ) → j < k → (vs ws : List Term) → AllOf (Below j) vs ws → (n : ℕ) → n ≤ j → Reach (sub s t) vs n → (m : ℕ) × Reach (sub q (Lam b x a (App b (shift t 0 1) (Var 0)))) ws m
      go j l [] [] e n m z = let y = step_at k j (sub s t) (sub q t) (fund t k s q r) l [] [] tt n m z in (suc y.0, alone (entered dummy [] y.0 (longer y.1)))
      go j l (v ∷ vs) (w ∷ ws) e n m z = let y = step_at k j (sub s t) (sub q t) (fund t k s q r) l (v ∷ vs) (w ∷ ws) e n m z in (suc y.0, enter (entered w ws y.0 y.1))
      go j l (v ∷ vs) [] e n m z = absurd e
      go j l [] (w ∷ ws) e n m z = absurd e

  unwound : {b : Flag} {t v : Term} {vs : List Term} {n : ℕ} → Reach (App b t v) vs n → Reach t (v ∷ vs) n
  unwound (unwind r) = r
  unwound (here e) = absurd e

  eta_back : (b : Flag) (x : ℕ) (a t : Term) → Under (Lam b x a (App b (shift t 0 1) (Var 0))) t
  eta_back b x a t k s q r = below_of k (sub s (Lam b x a (App b (shift t 0 1) (Var 0)))) (sub q t) (λ j l vs ws e n m z. go j l vs ws e n m z)
    where
      opened : (v : Term) (vs : List Term) (n : ℕ) → Reach (subst (over (sub_var s) 1 (App b (shift t 0 1) (Var 0))) 0 v) vs n → Reach (sub s t) (v ∷ vs) n
      opened v vs n z = unwound {b = b} (transport (λ u. Reach u vs n) (sub_eta s b t v) z)

      go : (j : ℕ) → j < k → (vs ws : List Term) → AllOf (Below j) vs ws → (n : ℕ) → n ≤ j → Reach (sub s (Lam b x a (App b (shift t 0 1) (Var 0)))) vs n → (m : ℕ) × Reach (sub q t) ws m
      go j l [] [] e (suc n) m (alone z) =
          let y = step_at k j (sub s t) (sub q t) (fund t k s q r) l (dummy ∷ []) (dummy ∷ []) (below_dummy j, tt) n (omega (arith, m)) (opened dummy [] n z) in
          (y.0, shorter [] y.1 refl)
      go j l (v ∷ vs) (w ∷ ws) e (suc n) m (enter z) = step_at k j (sub s t) (sub q t) (fund t k s q r) l (v ∷ vs) (w ∷ ws) e n (omega (arith, m)) (opened v vs n z)
      go j l [] [] e n m (here z) = absurd z
      go j l (v ∷ vs) (w ∷ ws) e n m (here z) = absurd z
      go j l (v ∷ vs) [] e n m z = absurd e
      go j l [] (w ∷ ws) e n m z = absurd e

  module _ (g : Signature Term) (inert : IsInert g) where
    no_some : {X : Type 0} {x : X} → None ≡ Some x → ⊥
    no_some e = cc e

    pub conv-under : {t u : Term} → Conv g t u → Under t u × Under u t
    conv-under (C.same {t = t}) = (fund t, fund t)
    conv-under (C.back h) = let x = conv-under h in (x.1, x.0)
    conv-under (C.then {t = t} {u = u} {v = v} h l) =
        let x = conv-under h in
        let y = conv-under l in (
          λ k s q r. chained k (sub s t) (sub q u) (sub q v) (x.0 k s q r) (λ i. y.0 i q q (λ j. itself i (q j))),
          λ k s q r. chained k (sub s v) (sub q u) (sub q t) (y.1 k s q r) (λ i. x.1 i q q (λ j. itself i (q j))),
        )
    conv-under (C.pi {b = b} {x = x} {y = y} {s = a} {s' = a'} {t = t} {t' = t'} h l) = (
      λ k s q r. nowhere k (sub s (Pi b x a t)) (sub q (Pi b y a' t')) (none_at (sub s (Pi b x a t)) tt (λ e. e)),
      λ k s q r. nowhere k (sub s (Pi b y a' t')) (sub q (Pi b x a t)) (none_at (sub s (Pi b y a' t')) tt (λ e. e)),
    )
    conv-under (C.lam {b = b} {x = x} {y = y} {s = a} {s' = a'} {t = t} {t' = t'} h) = let z = conv-under h in (lambdas b b x y a a' t t' z.0, lambdas b b y x a' a t' t z.1)
    conv-under (C.app {b = b} {t = t} {t' = t'} {u = u} {u' = u'} h l) =
        let x = conv-under h in
        let y = conv-under l in
        (λ k s q r. applied k b (sub s t) (sub q t') (sub s u) (sub q u') (x.0 k s q r) (y.0 k s q r), λ k s q r. applied k b (sub s t') (sub q t) (sub s u') (sub q u) (x.1 k s q r) (y.1 k s q r))
    conv-under (C.con {k = c} {ts = ts} {us = us}) = (
      λ k s q r. at_head k (sub s (Con c ts)) (sub q (Con c us)) (λ e. e) (λ vs m z. constant (sub s (Con c ts)) vs m tt z),
      λ k s q r. at_head k (sub s (Con c us)) (sub q (Con c ts)) (λ e. e) (λ vs m z. constant (sub s (Con c us)) vs m tt z),
    )
    conv-under (C.proj {f = f} {t = t} {t' = t'} h) = (
      λ k s q r. nowhere k (sub s (Proj f t)) (sub q (Proj f t')) (none_at (sub s (Proj f t)) tt (λ e. e)),
      λ k s q r. nowhere k (sub s (Proj f t')) (sub q (Proj f t)) (none_at (sub s (Proj f t')) tt (λ e. e)),
    )
    conv-under (C.meta {m = m} {ts = ts} {us = us} h) = (
      λ k s q r. nowhere k (sub s (Meta m ts)) (sub q (Meta m us)) (none_at (sub s (Meta m ts)) tt (λ e. e)),
      λ k s q r. nowhere k (sub s (Meta m us)) (sub q (Meta m ts)) (none_at (sub s (Meta m us)) tt (λ e. e)),
    )
    conv-under (C.beta {b = b} {x = x} {s = a} {t = t} {u = u}) = (beta_forth b x a t u, beta_back b x a t u)
    conv-under (C.eta {b = b} {x = x} {s = a} {t = t}) = (eta_forth b x a t, eta_back b x a t)
    conv-under (C.eta_record {k = k} {d = d} ps is) = absurd (inert.no_eta k d is)
    conv-under (C.field {f = f} is) = absurd (no_some (sym (inert.no_field f) ∙ is.place))
    conv-under (C.unfolds f es e h) = absurd (no_some (sym (inert.no_tree f) ∙ e))

    -- where one of two convertible terms comes to a head, so does the other
    pub reach-conv : (t u : Term) → Conv g t u → (vs : List Term) (n : ℕ) → Reach t vs n → (m : ℕ) × Reach u vs m
    reach-conv t u h vs n z =
        let b : Below (suc n) t u = transport (λ t. Below (suc n) t u) (sub_id t) (transport (Below (suc n) (sub Var t)) (sub_id u) ((conv-under h).0 (suc n) Var Var (own (suc n)))) in
        step_at (suc n) n t u b (omega arith) vs vs (all_itself n vs) n (omega arith) z
