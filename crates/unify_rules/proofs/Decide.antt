-- For each two head forms there is a rule.
use Rattle.std.specs.Prelude.{◌≡◌, ◌≢◌, ℕ, ◌<◌, ◌≤◌, ◌⊎◌, Bool, true, false, eqb, ltb, List, [], ◌∷◌, length, Option, Some, None, refl, zero, suc}
use Rattle.std.proofs.Common.{ap, sym, ◌∙◌, subst as transport, arith, inl, inr, eqb-true}
use Rattle.std.proofs.lemmas.Grind.{common_steps}
use Rattle.core_rules.specs.declared.Flag.{Flag}
use Rattle.core_rules.specs.declared.Flag.TheVariants.{Explicit, Implicit}
use Rattle.core_rules.specs.Term.{Term, Terms, Var, Sort, Pi, Lam, App, Def, Fam, Con, Proj, Meta, occurs}
use Rattle.core_rules.specs.Substitution.{value_at}
use Rattle.core_rules.specs.Elimination.{Elim, Arg, Field}
use Rattle.core_rules.specs.Unification.{Equation, eq, Depends, stands, through, CanSolve, con_spine, Pairs, no_pair, pair, UnderCon, inside, InOne, it, deeper, later}
use Rattle.core_rules.proofs.Heads.OneAnswer.{one_some}
use Rattle.core_rules.specs.Bounded.{Part, Pair, same_flag, with_part, argument_parts}
use Rattle.core_rules.proofs.Heads.Next.{same_flag-true}
use Rattle.core_rules.proofs.Heads.Sound.{eqb_same, cond_some}
use Rattle.unify_rules.specs.Unifier.{Conflict, Cycle, Stuck, Rule, Solve, Inject, Ends, Chosen, left_one, right_one, SameCon, same_con, OtherCon, other_con, Cycles, cycles_left, cycles_right, Applies, solves, injects, conflicts, cycles, sticks}
use Rattle.unify_rules.specs.Joined.{without}
use Rattle.unify_rules.proofs.Members.{Member, without-keeps, without-within, without-falls, upto, upto-has, Dec, one_of}

-- whether a test holds
is_true : (b : Bool) → Dec (b ≡ true)
is_true true = inl refl
is_true false = inr (λ e. cc)

same_number : (i j : ℕ) → Dec (i ≡ j)
same_number i j = by (eqb i j) refl
  where
    by : (b : Bool) → eqb i j ≡ b → Dec (i ≡ j)
    by true e = inl (eqb-true i j e)
    by false e = inr (λ f. let h : eqb j j ≡ true = eqb_same j in let k : eqb j j ≡ false = ap (λ x. eqb x j) (sym f) ∙ e in cc)

is_var : (t : Term) → Dec ((x : ℕ) × (t ≡ Var x))
is_var (Var i) = inl (i, refl)
is_var (Sort i) = inr (λ p. let e = p.1 in cc)
is_var (Pi b x a t) = inr (λ p. let e = p.1 in cc)
is_var (Lam b x a t) = inr (λ p. let e = p.1 in cc)
is_var (App b t u) = inr (λ p. let e = p.1 in cc)
is_var (Def i) = inr (λ p. let e = p.1 in cc)
is_var (Fam i) = inr (λ p. let e = p.1 in cc)
is_var (Con k ps) = inr (λ p. let e = p.1 in cc)
is_var (Proj i t) = inr (λ p. let e = p.1 in cc)
is_var (Meta i ts) = inr (λ p. let e = p.1 in cc)

-- dependence by a path whose variables are those of js
data Path (ts : List Term) (js : List ℕ) : Term → ℕ → Type 0 where
  at_end : {t : Term} {x : ℕ} → occurs x t ≡ true → Path ts js t x
  by_way : {t : Term} {x : ℕ} (y : ℕ) → Member y js → occurs y t ≡ true → Path ts js (value_at ts y) x → Path ts js t x

module _ (ts : List Term) where
  -- a path need not come to y twice
  avoid : (js : List ℕ) (y : ℕ) {t : Term} {x : ℕ} → Path ts js t x → Path ts (without y js) t x ⊎ Path ts (without y js) (value_at ts y) x
  avoid js y (at_end o) = inl (at_end o)
  avoid js y {t} {x} (by_way z m o p) = by (same_number z y) (avoid js y p)
    where
      by : Dec (z ≡ y) → Path ts (without y js) (value_at ts z) x ⊎ Path ts (without y js) (value_at ts y) x → Path ts (without y js) t x ⊎ Path ts (without y js) (value_at ts y) x
      by d (inr q) = inr q
      by (inl e) (inl q) = inr (transport (λ z. Path ts (without y js) (value_at ts z) x) e q)
      by (inr n) (inl q) = inl (by_way z (without-keeps y z js m n) o q)

  wider : (js : List ℕ) (y : ℕ) {t : Term} {x : ℕ} → Path ts (without y js) t x → Path ts js t x
  wider js y (at_end o) = at_end o
  wider js y (by_way z m o p) = by_way z (without-within y z js m) o (wider js y p)

  abbrev Step : List ℕ → Term → ℕ → ℕ → Type 0
  Step js t x y = (occurs y t ≡ true) × Path ts (without y js) (value_at ts y) x

  path_by : (js : List ℕ) (t : Term) (x : ℕ) → Dec (occurs x t ≡ true) → ((y : ℕ) × Member y js × Step js t x y) ⊎ ((y : ℕ) → Member y js → Step js t x y → ⊥) → Dec (Path ts js t x)
  path_by js t x (inl o) r = inl (at_end o)
  path_by js t x (inr n) (inl r) = inl (by_way r.0 r.1 r.2.0 (wider js r.0 r.2.1))
  path_by js t x (inr n) (inr k) = inr (λ p. no p)
    where
      either : (y : ℕ) → Member y js → occurs y t ≡ true → Path ts (without y js) (value_at ts y) x ⊎ Path ts (without y js) (value_at ts y) x → ⊥
      either y m o (inl q) = k y m (o, q)
      either y m o (inr q) = k y m (o, q)

      no : Path ts js t x → ⊥
      no (at_end o) = n o
      no (by_way y m o p) = either y m o (avoid js y p)

  both : (b : Bool) {A : Type 0} → Dec A → Dec ((b ≡ true) × A)
  both true (inl a) = inl (refl, a)
  both true (inr n) = inr (λ p. n p.1)
  both false d = inr (λ p. let e = p.0 in cc)

  path : (n : ℕ) (js : List ℕ) → length js ≤ n → (t : Term) (x : ℕ) → Dec (Path ts js t x)
  path zero [] l t x = path_by [] t x (is_true (occurs x t)) (inr (λ y m s. m))
  path zero (j ∷ js) l t x = absurd (omega arith)
  path (suc n) js l t x =
      path_by js t x (is_true (occurs x t)) (one_of (Step js t x) js (λ y m. both (occurs y t) (path n (without y js) (let r = without-falls y js m in omega (arith, r)) (value_at ts y) x)))

  value_beyond : (r : List Term) (i : ℕ) → length r ≤ i → value_at r i ≡ Sort 0
  value_beyond [] i l = refl
  value_beyond (t ∷ r) zero l = absurd (omega arith)
  value_beyond (t ∷ r) (suc i) l = value_beyond r i (omega arith)

  no_sort : {x n : ℕ} → Depends ts (Sort n) x → ⊥
  no_sort (stands o) = cc
  no_sort (through y o d) = cc

  -- the type of a variable that depends on one stands in the context
  depends_below : (y x : ℕ) → Depends ts (value_at ts y) x → y < length ts
  depends_below y x d = by (ltb y (length ts)) refl
    where
      by : (b : Bool) → ltb y (length ts) ≡ b → y < length ts
      by true e = grind (arith, common_steps)
      by false e = let l : length ts ≤ y = grind (arith, common_steps) in absurd (no_sort (transport (λ t. Depends ts t x) (value_beyond ts y l) d))

  to_path : {t : Term} {x : ℕ} → Depends ts t x → Path ts (upto (length ts)) t x
  to_path (stands o) = at_end o
  to_path {x = x} (through y o d) = by_way y (upto-has (length ts) y (depends_below y x d)) o (to_path d)

  from_path : (js : List ℕ) {t : Term} {x : ℕ} → Path ts js t x → Depends ts t x
  from_path js (at_end o) = stands o
  from_path js (by_way y m o p) = through y o (from_path js p)

  depends : (t : Term) (x : ℕ) → Dec (Depends ts t x)
  depends t x = by (path (length (upto (length ts))) (upto (length ts)) (omega arith) t x)
    where
      by : Dec (Path ts (upto (length ts)) t x) → Dec (Depends ts t x)
      by (inl p) = inl (from_path (upto (length ts)) p)
      by (inr n) = inr (λ d. n (to_path d))

  pub can_solve : (x : ℕ) (t : Term) → Dec (CanSolve ts x t)
  can_solve x t = by (occurs x t) refl (one_of Blocks (upto (length ts)) (λ y m. both (occurs y t) (depends (value_at ts y) x)))
    where
      Blocks : ℕ → Type 0
      Blocks y = (occurs y t ≡ true) × Depends ts (value_at ts y) x

      by : (b : Bool) → occurs x t ≡ b → ((y : ℕ) × Member y (upto (length ts)) × Blocks y) ⊎ ((y : ℕ) → Member y (upto (length ts)) → Blocks y → ⊥) → Dec (CanSolve ts x t)
      by true e r = inr (λ c. let f = c.absent in cc)
      by false e (inl r) = inr (λ c. c.free r.0 r.2.0 r.2.1)
      by false e (inr k) = inl (record { absent = e; free = λ y o d. k y (upto-has (length ts) y (depends_below y x d)) (o, d) })

  abbrev Left : Term → Term → Type 0
  Left t u = (x : ℕ) × (t ≡ Var x) × CanSolve ts x u

  left : (t u : Term) → Dec (Left t u)
  left t u = by (is_var t)
    where
      at : (x : ℕ) → t ≡ Var x → Dec (CanSolve ts x u) → Dec (Left t u)
      at x e (inl c) = inl (x, e, c)
      at x e (inr n) = inr (λ p. n (let f : Var p.0 ≡ Var x = sym p.1 ∙ e in let h : p.0 ≡ x = cc in transport (λ x. CanSolve ts x u) h p.2))

      by : Dec ((x : ℕ) × (t ≡ Var x)) → Dec (Left t u)
      by (inl p) = at p.0 p.1 (can_solve p.0 u)
      by (inr n) = inr (λ p. n (p.0, p.1))

  abbrev HasChosen : Term → Term → Type 0
  HasChosen t u = (x : ℕ) × (v : Term) × Chosen ts t u x v

  none : {t u : Term} → (Left t u → ⊥) → (Left u t → ⊥) → {x : ℕ} {v : Term} → Chosen ts t u x v → ⊥
  none m n (left_one {x = x} c h) = m (x, refl, c)
  none m n (right_one {y = y} c h) = n (y, refl, c)

  chosen : (t u : Term) → Dec (HasChosen t u)
  chosen t u = by (left t u) (left u t)
    where
      take_left : (p : Left t u) → ((y : ℕ) → u ≡ Var y → CanSolve ts y (Var p.0) → p.0 < y) → HasChosen t u
      take_left p h = (p.0, u, transport (λ t. Chosen ts t u p.0 u) (sym p.1) (left_one p.2 h))

      take_right : (p : Left u t) → ((x : ℕ) → t ≡ Var x → CanSolve ts x (Var p.0) → p.0 < x) → HasChosen t u
      take_right p h = (p.0, t, transport (λ u. Chosen ts t u p.0 t) (sym p.1) (right_one p.2 h))

      by_order : (p : Left t u) (q : Left u t) (b : Bool) → ltb p.0 q.0 ≡ b → HasChosen t u
      by_order p q true e = take_left p (λ y f c. let h : Var y ≡ Var q.0 = sym f ∙ q.1 in let i : y ≡ q.0 = cc in let l : p.0 < q.0 = grind (arith, common_steps) in omega arith)
      by_order p q false e = take_right q (λ x f c.
          let h : Var x ≡ Var p.0 = sym f ∙ p.1 in
          let i : x ≡ p.0 = cc in
          let l : q.0 ≤ p.0 = grind (arith, common_steps) in
          let a : occurs p.0 (Var q.0) ≡ false = transport (λ u. occurs p.0 u ≡ false) q.1 p.2.absent in
          let n : q.0 ≢ p.0 = (λ r. let s : eqb p.0 p.0 ≡ true = eqb_same p.0 in let z : eqb p.0 p.0 ≡ false = ap (λ j. eqb j p.0) (sym r) ∙ a in cc) in
          omega arith)

      by : Dec (Left t u) → Dec (Left u t) → Dec (HasChosen t u)
      by (inl p) (inl q) = inl (by_order p q (ltb p.0 q.0) refl)
      by (inl p) (inr n) = inl (take_left p (λ y e c. absurd (n (y, e, transport (CanSolve ts y) (sym p.1) c))))
      by (inr m) (inl q) = inl (take_right q (λ x e c. absurd (m (x, e, transport (CanSolve ts x) (sym q.1) c))))
      by (inr m) (inr n) = inr (λ p. none m n p.2)

-- a constructor with its arguments
spine : (t : Term) → Dec ((p : ℕ × List Elim) × (con_spine t [] ≡ Some p))
spine t = by (con_spine t []) refl
  where
    by : (o : Option (ℕ × List Elim)) → con_spine t [] ≡ o → Dec ((p : ℕ × List Elim) × (con_spine t [] ≡ Some p))
    by None e = inr (λ p. let f = p.1 in cc)
    by (Some p) e = inl (p, e)

-- the parts that bounded conversion compares are those of the equations of arguments
abbrev pub parts_from : List Equation → List Part
parts_from [] = []
parts_from (e ∷ es) = Pair [] e.left e.right ∷ parts_from es

flag_same : (b : Flag) → same_flag b b ≡ true
flag_same Explicit = refl
flag_same Implicit = refl

pub pairs-parts : {xs ys : List Elim} {qs : List Equation} → Pairs xs ys qs → argument_parts xs ys ≡ Some (parts_from qs)
pairs-parts no_pair = refl
pairs-parts (pair {b = b} {t = t} {u = u} p) = rw (flag_same b) (ap (with_part (Pair [] t u)) (pairs-parts p))

parts-pairs : (xs ys : List Elim) (ps : List Part) → argument_parts xs ys ≡ Some ps → (qs : List Equation) × Pairs xs ys qs
parts-pairs [] [] ps e = ([], no_pair)
parts-pairs [] (y ∷ ys) ps e = absurd cc
parts-pairs (Arg b t ∷ xs) [] ps e = absurd cc
parts-pairs (Field f ∷ xs) ys ps e = absurd cc
parts-pairs (Arg b t ∷ xs) (Field f ∷ ys) ps e = absurd cc
parts-pairs (Arg b t ∷ xs) (Arg c u ∷ ys) ps e =
    let h = cond_some (same_flag b c) (with_part (Pair [] t u) (argument_parts xs ys)) ps e in
    by (same_flag-true b c h.0) (parts-pairs xs ys) (argument_parts xs ys) refl h.1
  where
    by : b ≡ c → ((ps : List Part) → argument_parts xs ys ≡ Some ps → (qs : List Equation) × Pairs xs ys qs) → (o : Option (List Part)) → argument_parts xs ys ≡ o → with_part (Pair [] t u) o ≡ Some ps → (qs : List Equation) × Pairs (Arg b t ∷ xs) (Arg c u ∷ ys) qs
    by f r None a e = absurd cc
    by f r (Some ps) a e = let p = r ps a in (eq t u ∷ p.0, transport (λ c. Pairs (Arg b t ∷ xs) (Arg c u ∷ ys) (eq t u ∷ p.0)) f (pair p.1))

pairs : (xs ys : List Elim) → Dec ((qs : List Equation) × Pairs xs ys qs)
pairs xs ys = by (argument_parts xs ys) refl
  where
    by : (o : Option (List Part)) → argument_parts xs ys ≡ o → Dec ((qs : List Equation) × Pairs xs ys qs)
    by None e = inr (λ p. let f = pairs-parts p.1 in cc)
    by (Some ps) e = inl (parts-pairs xs ys ps e)

abbrev HasSame : Term → Term → Type 0
HasSame t u = (qs : List Equation) × SameCon t u qs

abbrev HasOther : Term → Term → Type 0
HasOther t u = (j : ℕ) × (k : ℕ) × OtherCon t u j k

-- two constructors, each with its arguments
abbrev IsSpine : Term → Type 0
IsSpine t = (p : ℕ × List Elim) × (con_spine t [] ≡ Some p)

no_same : {t u : Term} {qs : List Equation} → SameCon t u qs → IsSpine t × IsSpine u
no_same (same_con {k = k} {xs = xs} {ys = ys} a b p) = (((k, xs), a), ((k, ys), b))

no_other : {t u : Term} {j k : ℕ} → OtherCon t u j k → IsSpine t × IsSpine u
no_other {j = j} {k = k} (other_con {xs = xs} {ys = ys} a b n) = (((j, xs), a), ((k, ys), b))

-- the arguments of two constructors that are one
same_args : {t u : Term} {qs : List Equation} (p q : ℕ × List Elim) → con_spine t [] ≡ Some p → con_spine u [] ≡ Some q → SameCon t u qs → (p.0 ≡ q.0) × Pairs p.1 q.1 qs
same_args {qs = qs} p q e f (same_con {k = k} {xs = xs} {ys = ys} a b r) =
    let h : (k, xs) ≡ p = one_some (sym a ∙ e) in
    let i : (k, ys) ≡ q = one_some (sym b ∙ f) in
    (sym (ap (λ z. z.0) h) ∙ ap (λ z. z.0) i, transport (λ z. Pairs z q.1 qs) (ap (λ z. z.1) h) (transport (λ z. Pairs xs z qs) (ap (λ z. z.1) i) r))

other_ids : {t u : Term} {j k : ℕ} (p q : ℕ × List Elim) → con_spine t [] ≡ Some p → con_spine u [] ≡ Some q → OtherCon t u j k → p.0 ≢ q.0
other_ids {j = j} {k = k} p q e f (other_con {xs = xs} {ys = ys} a b n) =
    let h : (j, xs) ≡ p = one_some (sym a ∙ e) in
    let i : (k, ys) ≡ q = one_some (sym b ∙ f) in
    λ r. n (ap (λ z. z.0) h ∙ (r ∙ sym (ap (λ z. z.0) i)))

-- what two constructors with their arguments come to
abbrev Both : Term → Term → Type 0
Both t u = HasSame t u ⊎ (HasOther t u ⊎ ((HasSame t u → ⊥) × (HasOther t u → ⊥)))

at_ids : (t u : Term) (p q : ℕ × List Elim) → con_spine t [] ≡ Some p → con_spine u [] ≡ Some q → Dec (p.0 ≡ q.0) → Dec ((qs : List Equation) × Pairs p.1 q.1 qs) → Both t u
at_ids t u p q e f (inr n) d = inr (inl (p.0, q.0, other_con {xs = p.1} {ys = q.1} e f n))
at_ids t u p q e f (inl h) (inl r) = inl (r.0, same_con {k = p.0} {xs = p.1} {ys = q.1} e (transport (λ k. con_spine u [] ≡ Some (k, q.1)) (sym h) f) r.1)
at_ids t u p q e f (inl h) (inr n) = inr (inr (λ s. n (s.0, (same_args p q e f s.1).1), λ o. other_ids p q e f o.2 h))

constructors : (t u : Term) → Both t u
constructors t u = by (spine t) (spine u)
  where
    by : Dec (IsSpine t) → Dec (IsSpine u) → Both t u
    by (inl p) (inl q) = at_ids t u p.0 q.0 p.1 q.1 (same_number p.0.0 q.0.0) (pairs p.0.1 q.0.1)
    by (inl p) (inr n) = inr (inr (λ s. n (no_same s.1).1, λ o. n (no_other o.2).1))
    by (inr n) d = inr (inr (λ s. n (no_same s.1).0, λ o. n (no_other o.2).0))

-- strictly under constructors
module _ (x : ℕ) where
  abbrev Spined : Term → List Elim → Type 0
  Spined t es = (p : ℕ × List Elim) × (con_spine t es ≡ Some p) × InOne x p.1

  under_of : {t : Term} → UnderCon x t → Spined t []
  under_of (inside {k = k} {es = es} e a) = ((k, es), e, a)

  to_under : (t : Term) → Dec (Spined t []) → Dec (UnderCon x t)
  to_under t (inl s) = inl (inside {k = s.0.0} {es = s.0.1} s.1 s.2)
  to_under t (inr n) = inr (λ u. n (under_of u))

  var_at : {b : Flag} {u : Term} {es : List Elim} → u ≡ Var x → InOne x (Arg b u ∷ es)
  var_at {b} {es = es} e = transport (λ u. InOne x (Arg b u ∷ es)) (sym e) it

  parts_of_one : {b : Flag} {u : Term} {es : List Elim} → InOne x (Arg b u ∷ es) → (u ≡ Var x) ⊎ (UnderCon x u ⊎ InOne x es)
  parts_of_one it = inl refl
  parts_of_one (deeper h) = inr (inl h)
  parts_of_one (later h) = inr (inr h)

  in_var : (u : Term) → Dec ((i : ℕ) × (u ≡ Var i)) → Dec (u ≡ Var x)
  in_var u (inl p) = by (same_number p.0 x)
    where
      by : Dec (p.0 ≡ x) → Dec (u ≡ Var x)
      by (inl e) = inl (p.1 ∙ ap Var e)
      by (inr n) = inr (λ e. let f : Var p.0 ≡ Var x = sym p.1 ∙ e in n cc)
  in_var u (inr n) = inr (λ e. n (x, e))

  in_arg : (b : Flag) (u : Term) (es : List Elim) → Dec (u ≡ Var x) → Dec (UnderCon x u) → Dec (InOne x es) → Dec (InOne x (Arg b u ∷ es))
  in_arg b u es (inl e) d f = inl (var_at e)
  in_arg b u es (inr n) (inl h) f = inl (deeper h)
  in_arg b u es (inr n) (inr m) (inl h) = inl (later h)
  in_arg b u es (inr n) (inr m) (inr k) = inr (λ a. none (parts_of_one a))
    where
      none : (u ≡ Var x) ⊎ (UnderCon x u ⊎ InOne x es) → ⊥
      none (inl e) = n e
      none (inr (inl h)) = m h
      none (inr (inr h)) = k h

  at_con : (k : ℕ) (ps : Terms) (es : List Elim) → Dec (InOne x es) → Dec (Spined (Con k ps) es)
  at_con k ps es (inl a) = inl ((k, es), refl, a)
  at_con k ps es (inr n) = inr (λ s. n (let e : (k, es) ≡ s.0 = one_some s.1 in transport (InOne x) (sym (ap (λ z. z.1) e)) s.2))

  spined : (t : Term) (es : List Elim) → Dec (InOne x es) → Dec (Spined t es)
  spined (Con k ps) es d = at_con k ps es d
  spined (App b t u) es d = spined t (Arg b u ∷ es) (in_arg b u es (in_var u (is_var u)) (to_under u (spined u [] (inr (λ a. elim a [ ])))) d)
  spined (Var i) es d = inr (λ s. let e = s.1 in cc)
  spined (Sort i) es d = inr (λ s. let e = s.1 in cc)
  spined (Pi b y a t) es d = inr (λ s. let e = s.1 in cc)
  spined (Lam b y a t) es d = inr (λ s. let e = s.1 in cc)
  spined (Def i) es d = inr (λ s. let e = s.1 in cc)
  spined (Fam i) es d = inr (λ s. let e = s.1 in cc)
  spined (Proj i t) es d = inr (λ s. let e = s.1 in cc)
  spined (Meta i ts) es d = inr (λ s. let e = s.1 in cc)

  no_one : InOne x [] → ⊥
  no_one a = elim a [ ]

  pub under_con : (t : Term) → Dec (UnderCon x t)
  under_con t = to_under t (spined t [] (inr no_one))

abbrev HasCycle : Term → Term → Type 0
HasCycle t u = (x : ℕ) × Cycles t u x

cycle_parts : {t u : Term} {x : ℕ} → Cycles t u x → ((t ≡ Var x) × UnderCon x u) ⊎ ((u ≡ Var x) × UnderCon x t)
cycle_parts (cycles_left h) = inl (refl, h)
cycle_parts (cycles_right h) = inr (refl, h)

abbrev LeftCycle : Term → Term → Type 0
LeftCycle t u = (x : ℕ) × (t ≡ Var x) × UnderCon x u

left_cycle : (t u : Term) → Dec ((x : ℕ) × (t ≡ Var x)) → Dec (LeftCycle t u)
left_cycle t u (inl p) = by (under_con p.0 u)
  where
    by : Dec (UnderCon p.0 u) → Dec (LeftCycle t u)
    by (inl h) = inl (p.0, p.1, h)
    by (inr n) = inr (λ c. n (let f : Var c.0 ≡ Var p.0 = sym c.1 ∙ p.1 in let h : c.0 ≡ p.0 = cc in transport (λ x. UnderCon x u) h c.2))
left_cycle t u (inr n) = inr (λ c. n (c.0, c.1))

cycle : (t u : Term) → Dec (LeftCycle t u) → Dec (LeftCycle u t) → Dec (HasCycle t u)
cycle t u (inl c) d = inl (c.0, transport (λ t. Cycles t u c.0) (sym c.1) (cycles_left c.2))
cycle t u (inr n) (inl c) = inl (c.0, transport (λ u. Cycles t u c.0) (sym c.1) (cycles_right c.2))
cycle t u (inr n) (inr m) = inr (λ c. none c.0 (cycle_parts c.1))
  where
    none : (x : ℕ) → ((t ≡ Var x) × UnderCon x u) ⊎ ((u ≡ Var x) × UnderCon x t) → ⊥
    none x (inl h) = n (x, h.0, h.1)
    none x (inr h) = m (x, h.0, h.1)

-- there is a rule
pub rule_stands : (ts : List Term) (t u : Term) → (r : Rule) × Applies ts t u r
rule_stands ts t u = by (chosen ts t u) (constructors t u) (cycle t u (left_cycle t u (is_var t)) (left_cycle u t (is_var u)))
  where
    by : Dec (HasChosen ts t u) → Both t u → Dec (HasCycle t u) → (r : Rule) × Applies ts t u r
    by (inl c) b d = (Solve c.0 c.1, solves c.2)
    by (inr n) (inl s) d = (Inject s.0, injects s.1)
    by (inr n) (inr (inl o)) d = (Ends (Conflict o.0 o.1), conflicts o.2)
    by (inr n) (inr (inr m)) (inl c) = (Ends (Cycle c.0), cycles c.1)
    by (inr n) (inr (inr m)) (inr k) = (
      Ends (Stuck t u),
      sticks (record {
        no_solve = λ x v c. n (x, v, c);
        no_inject = λ qs s. m.0 (qs, s);
        no_conflict = λ j k o. m.1 (j, k, o);
        no_cycle = λ x c. k (x, c);
      }),
    )
