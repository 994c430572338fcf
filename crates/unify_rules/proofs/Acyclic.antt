-- Types never come to depend on their own variables, so that there is an order of dependence.
use Rattle.std.specs.Prelude.{◌≡◌, ◌≢◌, ℕ, ◌+◌, ◌-◌, ◌<◌, ◌≤◌, ◌⊎◌, Bool, true, false, ◌&&◌, not, eqb, ltb, cond, List, [], ◌∷◌, length, map, slice_get, Option, Some, None, refl, zero, suc}
use Rattle.std.specs.Option.{option_map_or}
use Rattle.std.proofs.Common.{sym, subst as transport, arith, inl, inr, eqb-true}
use Rattle.std.proofs.lemmas.Grind.{common_steps}
use Rattle.core_rules.specs.Term.{Term, Terms, Var, Sort, Pi, Lam, App, Def, Fam, Con, Proj, Meta, End, And, occurs, occurs_in}
use Rattle.core_rules.specs.Substitution.{shift, shift_var, value_at}
use Rattle.core_rules.specs.Signature.{Context, Signature}
use Rattle.core_rules.specs.BoundedLaws.{shown}
use Rattle.core_rules.specs.Bounded as B
use Rattle.core_rules.specs.Bounded.{Verdict, Yes, No, WaitsFor}
use Rattle.core_rules.specs.Unification.{Equation, Solution, State, St, Depends, stands, through, CanSolve, put, whole_types, begin}
use Rattle.core_rules.proofs.Heads.OneAnswer.{one_some}
use Rattle.core_rules.proofs.Heads.Sound.{eqb_same}
use Rattle.unify_rules.specs.Unifier.{Outcome, Solved, Conflict, Cycle, Stuck, OutOfFuel, OutOfDepth, Rule, Chosen, left_one, right_one, Applies, solves, injects, conflicts, cycles, sticks, Ruled, Next, Answers, Goes, after, Turn, done, out_left, out_right, turn, Unify, answers, goes}
use Rattle.unify_rules.specs.Joined.{value_of, where_none, unsolved, without, has_none, first_ready, reverse_onto, order, place_in, keep_of}
use Rattle.unify_rules.proofs.Members.{Member, without-keeps, without-falls, eqb_false, Dec, one_of}
use Rattle.unify_rules.proofs.Only.{only, only_all, only-over}
use Rattle.unify_rules.proofs.HeadsOnly.{any, only_any}
use Rattle.unify_rules.proofs.Fewer.{put-only}
use Rattle.unify_rules.proofs.OneOutcome.{or_left, or_right, or_true}
use Rattle.unify_rules.proofs.Order.{Unsolved, Once, unsolved_has, ready_member, keep_once}

-- what occurs has the property, and the other way round
module _ (P : ℕ → Type 0) where
  at_depth : (x d : ℕ) (i : ℕ) → (i < d) ⊎ P (i - d) → eqb i (x + d) ≡ true → P x
  at_depth x d i (inl l) e = absurd (let q : i ≡ x + d = eqb-true i (x + d) e in omega arith)
  at_depth x d i (inr p) e = let q : i ≡ x + d = eqb-true i (x + d) e in let z : i - d ≡ x = omega arith in transport P z p

  next : (x d : ℕ) (t : Term) → occurs (x + d + 1) t ≡ true → occurs (x + (d + 1)) t ≡ true
  next x d t e = let r : x + d + 1 ≡ x + (d + 1) = omega arith in transport (λ n. occurs n t ≡ true) r e

  two : (x : ℕ) (A B : Type 0) → A ⊎ B → (A → P x) → (B → P x) → P x
  two x A B (inl a) f g = f a
  two x A B (inr b) f g = g b

  mutual
    only-occurs : (x d : ℕ) (t : Term) → only P d t → occurs (x + d) t ≡ true → P x
    only-occurs x d (Var i) h e = at_depth x d i h e
    only-occurs x d (Sort n) h e = absurd cc
    only-occurs x d (Pi c y s t) h e = two x (occurs (x + d) s ≡ true) (occurs (x + d + 1) t ≡ true) (or_true (occurs (x + d) s) (occurs (x + d + 1) t) e) (λ f. only-occurs x d s h.0 f) (λ f. only-occurs x (d + 1) t h.1 (next x d t f))
    only-occurs x d (Lam c y s t) h e = two x (occurs (x + d) s ≡ true) (occurs (x + d + 1) t ≡ true) (or_true (occurs (x + d) s) (occurs (x + d + 1) t) e) (λ f. only-occurs x d s h.0 f) (λ f. only-occurs x (d + 1) t h.1 (next x d t f))
    only-occurs x d (App c t u) h e = two x (occurs (x + d) t ≡ true) (occurs (x + d) u ≡ true) (or_true (occurs (x + d) t) (occurs (x + d) u) e) (λ f. only-occurs x d t h.0 f) (λ f. only-occurs x d u h.1 f)
    only-occurs x d (Def k) h e = absurd cc
    only-occurs x d (Fam k) h e = absurd cc
    only-occurs x d (Con k ts) h e = only_all-occurs x d ts h e
    only-occurs x d (Proj k t) h e = only-occurs x d t h e
    only-occurs x d (Meta k ts) h e = only_all-occurs x d ts h e

    only_all-occurs : (x d : ℕ) (ts : Terms) → only_all P d ts → occurs_in (x + d) ts ≡ true → P x
    only_all-occurs x d End h e = absurd cc
    only_all-occurs x d (And t ts) h e = two x (occurs (x + d) t ≡ true) (occurs_in (x + d) ts ≡ true) (or_true (occurs (x + d) t) (occurs_in (x + d) ts) e) (λ f. only-occurs x d t h.0 f) (λ f. only_all-occurs x d ts h.1 f)

  from_var : (d i : ℕ) → ((x : ℕ) → eqb i (x + d) ≡ true → P x) → (i < d) ⊎ P (i - d)
  from_var d i h = by (ltb i d) refl
    where
      by : (b : Bool) → ltb i d ≡ b → (i < d) ⊎ P (i - d)
      by true e = inl (grind (arith, common_steps))
      by false e = inr (h (i - d) (let l : d ≤ i = grind (arith, common_steps) in let q : i ≡ i - d + d = omega arith in transport (λ j. eqb i j ≡ true) q (eqb_same i)))

  before : (x d : ℕ) (t : Term) → occurs (x + (d + 1)) t ≡ true → occurs (x + d + 1) t ≡ true
  before x d t e = let r : x + (d + 1) ≡ x + d + 1 = omega arith in transport (λ n. occurs n t ≡ true) r e

  mutual
    occurs-only : (d : ℕ) (t : Term) → ((x : ℕ) → occurs (x + d) t ≡ true → P x) → only P d t
    occurs-only d (Var i) h = from_var d i h
    occurs-only d (Sort n) h = tt
    occurs-only d (Pi c y s t) h = (occurs-only d s (λ x e. h x (or_left (occurs (x + d) s) (occurs (x + d + 1) t) e)), occurs-only (d + 1) t (λ x e. h x (or_right (occurs (x + d) s) (occurs (x + d + 1) t) (before x d t e))))
    occurs-only d (Lam c y s t) h = (occurs-only d s (λ x e. h x (or_left (occurs (x + d) s) (occurs (x + d + 1) t) e)), occurs-only (d + 1) t (λ x e. h x (or_right (occurs (x + d) s) (occurs (x + d + 1) t) (before x d t e))))
    occurs-only d (App c t u) h = (occurs-only d t (λ x e. h x (or_left (occurs (x + d) t) (occurs (x + d) u) e)), occurs-only d u (λ x e. h x (or_right (occurs (x + d) t) (occurs (x + d) u) e)))
    occurs-only d (Def k) h = tt
    occurs-only d (Fam k) h = tt
    occurs-only d (Con k ts) h = occurs-only_all d ts h
    occurs-only d (Proj k t) h = occurs-only d t h
    occurs-only d (Meta k ts) h = occurs-only_all d ts h

    occurs-only_all : (d : ℕ) (ts : Terms) → ((x : ℕ) → occurs_in (x + d) ts ≡ true → P x) → only_all P d ts
    occurs-only_all d End h = tt
    occurs-only_all d (And t ts) h = (occurs-only d t (λ x e. h x (or_left (occurs (x + d) t) (occurs_in (x + d) ts) e)), occurs-only_all d ts (λ x e. h x (or_right (occurs (x + d) t) (occurs_in (x + d) ts) e)))

  pub occurs_has : (x : ℕ) (t : Term) → only P 0 t → occurs x t ≡ true → P x
  occurs_has x t h e = let r : x ≡ x + 0 = omega arith in only-occurs x 0 t h (transport (λ n. occurs n t ≡ true) r e)

  pub has_only : (t : Term) → ((x : ℕ) → occurs x t ≡ true → P x) → only P 0 t
  has_only t h = occurs-only 0 t (λ x e. h x (let r : x + 0 ≡ x = omega arith in transport (λ n. occurs n t ≡ true) r e))

-- what occurs where v is put for x
abbrev AfterPut : ℕ → Term → Term → ℕ → Type 0
AfterPut x v a i = ((occurs i a ≡ true) × (i ≢ x)) ⊎ ((occurs x a ≡ true) × (occurs i v ≡ true))

put-occurs : (x : ℕ) (v a : Term) (i : ℕ) → occurs i (put x v a) ≡ true → AfterPut x v a i
put-occurs x v a i e =
    let h = put-only (λ i. occurs i a ≡ true) (AfterPut x v a) x v (λ o. has_only (AfterPut x v a) v (λ j f. inr (o, f))) (λ j o d. inl (o, d)) a (has_only (λ i. occurs i a ≡ true) a (λ j o. o)) in
    occurs_has (AfterPut x v a) i (put x v a) h e

put-value : (x : ℕ) (v : Term) (ts : List Term) (y : ℕ) → value_at (map (put x v) ts) y ≡ put x v (value_at ts y)
put-value x v [] y = refl
put-value x v (t ∷ ts) zero = refl
put-value x v (t ∷ ts) (suc y) = put-value x v ts y

-- no type depends on its variable
abbrev pub Acyclic : List Term → Type 0
Acyclic ts = (y : ℕ) → Depends ts (value_at ts y) y → ⊥

further : {ts : List Term} {t : Term} {y x : ℕ} → Depends ts t y → Depends ts (value_at ts y) x → Depends ts t x
further {y = y} (stands o) d = through y o d
further (through z o e) d = through z o (further e d)

module _ (ts : List Term) (x : ℕ) (v : Term) (can : CanSolve ts x v) where
  abbrev ts' : List Term
  ts' = map (put x v) ts

  -- a path with the value put in is an old one, or comes to x in the old types
  abbrev Way : Term → ℕ → Type 0
  Way a w = Depends ts a w ⊎ (Depends ts a x × ((z : ℕ) × (occurs z v ≡ true) × ((z ≡ w) ⊎ Depends ts' (value_at ts' z) w)))

  by_way : (a : Term) (z w : ℕ) → AfterPut x v a z → Depends ts' (value_at ts' z) w → Way (value_at ts z) w → Way a w
  by_way a z w (inr o) d r = inr (stands o.0, (z, o.1, inr d))
  by_way a z w (inl o) d (inl p) = inl (through z o.0 p)
  by_way a z w (inl o) d (inr p) = inr (through z o.0 p.0, p.1)

  by_end : (a : Term) (w : ℕ) → AfterPut x v a w → Way a w
  by_end a w (inl o) = inl (stands o.0)
  by_end a w (inr o) = inr (stands o.0, (w, o.1, inl refl))

  way : (a b : Term) (w : ℕ) → b ≡ put x v a → Depends ts' b w → Way a w
  way a b w e (stands o) = by_end a w (put-occurs x v a w (transport (λ b. occurs w b ≡ true) e o))
  way a b w e (through z o d) = by_way a z w (put-occurs x v a z (transport (λ b. occurs z b ≡ true) e o)) d (way (value_at ts z) (value_at ts' z) w (put-value x v ts z) d)

  from_value : (z w : ℕ) → occurs z v ≡ true → Depends ts' (value_at ts' z) w → Depends ts (value_at ts z) w
  from_value z w o d = by (way (value_at ts z) (value_at ts' z) w (put-value x v ts z) d)
    where
      by : Way (value_at ts z) w → Depends ts (value_at ts z) w
      by (inl p) = p
      by (inr p) = absurd (can.free z o p.0)

  acyclic-put : Acyclic ts → Acyclic ts'
  acyclic-put a y d = by (way (value_at ts y) (value_at ts' y) y (put-value x v ts y) d)
    where
      closes : Depends ts (value_at ts y) x → (z : ℕ) → occurs z v ≡ true → (z ≡ y) ⊎ Depends ts' (value_at ts' z) y → ⊥
      closes p z o (inl e) = can.free z o (transport (λ y. Depends ts (value_at ts y) x) (sym e) p)
      closes p z o (inr q) = can.free z o (further (from_value z y o q) p)

      by : Way (value_at ts y) y → ⊥
      by (inl p) = a y p
      by (inr p) = closes p.0 p.1.0 p.1.1 p.1.2

-- the types of a context depend on entries outside alone
raised : (k d i : ℕ) → (i < d + 0) ⊎ any (i - (d + 0)) → only (λ i. k ≤ i) (d + 0) (shift_var 0 k d i)
raised k d i h = by (ltb i (0 + d)) refl
  where
    by : (b : Bool) → ltb i (0 + d) ≡ b → (cond b i (i + k) < d + 0) ⊎ (k ≤ cond b i (i + k) - (d + 0))
    by true e = inl (let l : i < d = grind (arith, common_steps) in omega arith)
    by false e = inr (let l : d ≤ i = grind (arith, common_steps) in omega arith)

shift_above : (k : ℕ) (t : Term) (i : ℕ) → occurs i (shift t 0 k) ≡ true → k ≤ i
shift_above k t i e = occurs_has (λ i. k ≤ i) i (shift t 0 k) (only-over any (λ i. k ≤ i) (shift_var 0 k) 0 0 (raised k) 0 t (only_any 0 t)) e

type_above : (n : ℕ) (c : Context Term) (y i : ℕ) → occurs i (value_at (whole_types n c) y) ≡ true → n + y < i
type_above n [] y i e = absurd cc
type_above n (a ∷ c) zero i e = let l = shift_above (n + 1) a.ty i e in omega (arith, l)
type_above n (a ∷ c) (suc y) i e = let l = type_above (n + 1) c y i e in omega (arith, l)

path_above : (c : Context Term) (y : ℕ) (t : Term) (w : ℕ) → ((i : ℕ) → occurs i t ≡ true → y < i) → Depends (whole_types 0 c) t w → y < w
path_above c y t w h (stands o) = h w o
path_above c y t w h (through z o d) = let l = h z o in let m = path_above c z (value_at (whole_types 0 c) z) w (λ i e. let k = type_above 0 c z i e in omega (arith, k)) d in omega (arith, l, m)

context_acyclic : (c : Context Term) → Acyclic (whole_types 0 c)
context_acyclic c y d = let l = path_above c y (value_at (whole_types 0 c) y) y (λ i e. let k = type_above 0 c y i e in omega (arith, k)) d in absurd (omega (arith, l))

-- some variable of a list has a type in which none of the list stands
module _ (ts : List Term) (a : Acyclic ts) (ws : List ℕ) where
  abbrev Ready : Type 0
  Ready = (m : ℕ) × Member m ws × ((j : ℕ) → Member j ws → occurs j (value_at ts m) ≡ true → ⊥)

  -- from i, where those that are not in js were passed on the way to i
  abbrev Passed : List ℕ → ℕ → Type 0
  Passed js i = (k : ℕ) → Member k ws → Member k js ⊎ ((k ≡ i) ⊎ Depends ts (value_at ts k) i)

  same : (i j : ℕ) → Dec (i ≡ j)
  same i j = by (eqb i j) refl
    where
      by : (b : Bool) → eqb i j ≡ b → Dec (i ≡ j)
      by true e = inl (eqb-true i j e)
      by false e = inr (eqb_false i j e)

  pass : (js : List ℕ) (i j : ℕ) → occurs j (value_at ts i) ≡ true → Passed js i → Passed (without j js) j
  pass js i j o p k m = by (same k j) (p k m)
    where
      by : Dec (k ≡ j) → Member k js ⊎ ((k ≡ i) ⊎ Depends ts (value_at ts k) i) → Member k (without j js) ⊎ ((k ≡ j) ⊎ Depends ts (value_at ts k) j)
      by (inl e) r = inr (inl e)
      by (inr n) (inl h) = inl (without-keeps j k js h n)
      by (inr n) (inr (inl e)) = inr (inr (stands (transport (λ i. occurs j (value_at ts i) ≡ true) (sym e) o)))
      by (inr n) (inr (inr d)) = inr (inr (further d (stands o)))

  test : (b : Bool) → Dec (b ≡ true)
  test true = inl refl
  test false = inr (λ e. cc)

  at_next : (js : List ℕ) (i j : ℕ) → Member j ws → occurs j (value_at ts i) ≡ true → (Member j js → Ready) → Member j js ⊎ ((j ≡ i) ⊎ Depends ts (value_at ts j) i) → Ready
  at_next js i j m o r (inl h) = r h
  at_next js i j m o r (inr (inl e)) = absurd (a i (stands (transport (λ j. occurs j (value_at ts i) ≡ true) e o)))
  at_next js i j m o r (inr (inr d)) = absurd (a i (through j o d))

  by_next : (js : List ℕ) (i : ℕ) → Member i ws → Passed js i → ((j : ℕ) → Member j ws → occurs j (value_at ts i) ≡ true → Member j js → Ready)
      → ((j : ℕ) × Member j ws × (occurs j (value_at ts i) ≡ true)) ⊎ ((j : ℕ) → Member j ws → occurs j (value_at ts i) ≡ true → ⊥) → Ready
  by_next js i m p r (inl h) = at_next js i h.0 h.1 h.2 (λ k. r h.0 h.1 h.2 k) (p h.0 h.1)
  by_next js i m p r (inr n) = (i, m, n)

  search_ready : (n : ℕ) (js : List ℕ) → length js ≤ n → (i : ℕ) → Member i ws → Passed js i → Ready
  search_ready zero js l i m p =
      by_next js i m p (λ j k o h. let f = without-falls j js h in absurd (omega (arith, f, l))) (one_of (λ j. occurs j (value_at ts i) ≡ true) ws (λ j k. test (occurs j (value_at ts i))))
  search_ready (suc n) js l i m p =
      by_next js i m p (λ j k o h. search_ready n (without j js) (let f = without-falls j js h in omega (arith, f, l)) j k (pass js i j o p)) (one_of (λ j. occurs j (value_at ts i) ≡ true) ws (λ j k. test (occurs j (value_at ts i))))

  ready : (i : ℕ) → Member i ws → Ready
  ready i m = search_ready (length ws) ws (omega arith) i m (λ k h. inl h)

  has_none_by : (js : List ℕ) (t : Term) → ((j : ℕ) → Member j js → occurs j t ≡ true → ⊥) → has_none js t ≡ true
  has_none_by [] t h = refl
  has_none_by (j ∷ js) t h = by (occurs j t) refl (has_none_by js t (λ k m. h k (inr m)))
    where
      by : (b : Bool) → occurs j t ≡ b → has_none js t ≡ true → not b && has_none js t ≡ true
      by true e r = absurd (h j (inl refl) e)
      by false e r = r

  has_first : (is : List ℕ) (m : ℕ) → Member m is → has_none ws (value_at ts m) ≡ true → (i : ℕ) × (first_ready ts ws is ≡ Some i)
  has_first [] m k e = absurd k
  has_first (j ∷ is) m k e = by (λ h. has_first is m h e) (has_none ws (value_at ts j)) refl k
    where
      by : (Member m is → (i : ℕ) × (first_ready ts ws is ≡ Some i)) → (b : Bool) → has_none ws (value_at ts j) ≡ b → (m ≡ j) ⊎ Member m is → (i : ℕ) × (cond b (Some j) (first_ready ts ws is) ≡ Some i)
      by r true f h = (j, refl)
      by r false f (inl h) = let q : has_none ws (value_at ts j) ≡ true = transport (λ j. has_none ws (value_at ts j) ≡ true) h e in absurd cc
      by r false f (inr h) = r h

  first_stands : (i : ℕ) → Member i ws → (j : ℕ) × (first_ready ts ws ws ≡ Some j)
  first_stands i m = let r = ready i m in has_first ws r.0 r.1 (has_none_by ws (value_at ts r.0) r.2)

first_none : (ts : List Term) (ws is : List ℕ) (i : ℕ) → first_ready ts ws is ≡ Some i → has_none ws (value_at ts i) ≡ true
first_none ts ws [] i e = absurd cc
first_none ts ws (j ∷ is) i e = by (λ f. first_none ts ws is i f) (has_none ws (value_at ts j)) refl e
  where
    by : (first_ready ts ws is ≡ Some i → has_none ws (value_at ts i) ≡ true) → (b : Bool) → has_none ws (value_at ts j) ≡ b → cond b (Some j) (first_ready ts ws is) ≡ Some i → has_none ws (value_at ts i) ≡ true
    by r true f h = transport (λ i. has_none ws (value_at ts i) ≡ true) (one_some h) f
    by r false f h = r h

none_of : (js : List ℕ) (t : Term) (j : ℕ) → has_none js t ≡ true → Member j js → occurs j t ≡ true → ⊥
none_of [] t j e m o = m
none_of (k ∷ js) t j e m o = by (occurs k t) refl e m (λ f h. none_of js t j f h o)
  where
    by : (b : Bool) → occurs k t ≡ b → not b && has_none js t ≡ true → (j ≡ k) ⊎ Member j js → (has_none js t ≡ true → Member j js → ⊥) → ⊥
    by true f g h r = cc
    by false f g (inl h) r = let q : occurs k t ≡ true = transport (λ j. occurs j t ≡ true) h o in cc
    by false f g (inr h) r = r g h

module _ (ts : List Term) (ss : List Solution) (n : ℕ) where
  -- each stands inside the unsolved variables that occur in its type
  abbrev Nested : List ℕ → Type 0
  Nested [] = Unit {0}
  Nested (k ∷ ks) = ((i : ℕ) → Unsolved ss n i → occurs i (value_at ts k) ≡ true → Member i ks) × Nested ks

  abbrev Covers : List ℕ → List ℕ → Type 0
  Covers is ks = (i : ℕ) → Unsolved ss n i → Member i is ⊎ Member i ks

  covers_next : (i : ℕ) (is ks : List ℕ) → Covers is ks → Covers (without i is) (i ∷ ks)
  covers_next i is ks c j u = by (eqb j i) refl (c j u)
    where
      by : (b : Bool) → eqb j i ≡ b → Member j is ⊎ Member j ks → Member j (without i is) ⊎ ((j ≡ i) ⊎ Member j ks)
      by true e r = inr (inl (eqb-true j i e))
      by false e (inl m) = inl (without-keeps i j is m (eqb_false j i e))
      by false e (inr m) = inr (inr m)

  nested_next : (i : ℕ) (is ks : List ℕ) → Covers is ks → has_none is (value_at ts i) ≡ true → Nested ks → Nested (i ∷ ks)
  nested_next i is ks c e d = (λ j u o. by j o (c j u), d)
    where
      by : (j : ℕ) → occurs j (value_at ts i) ≡ true → Member j is ⊎ Member j ks → Member j ks
      by j o (inl m) = absurd (none_of is (value_at ts i) j e m o)
      by j o (inr m) = m

  order_nested : Acyclic ts → (m : ℕ) (is ks : List ℕ) → length is ≤ m → Covers is ks → Nested ks → Nested (order m ts is ks)
  order_nested a zero [] ks l c d = d
  order_nested a zero (i ∷ is) ks l c d = absurd (omega arith)
  order_nested a (suc m) [] ks l c d = d
  order_nested a (suc m) (w ∷ ws) ks l c d =
      let f = first_stands ts a (w ∷ ws) w (inl refl) in
      let r = without-falls f.0 (w ∷ ws) (ready_member ts (w ∷ ws) (w ∷ ws) f.0 f.1) in
      transport (λ o. Nested (option_map_or (λ i. order m ts (without i (w ∷ ws)) (i ∷ ks)) o (reverse_onto (w ∷ ws) ks))) (sym f.1)
      (order_nested a m (without f.0 (w ∷ ws)) (f.0 ∷ ks) (omega (arith, r, l)) (covers_next f.0 (w ∷ ws) ks c) (nested_next f.0 (w ∷ ws) ks c (first_none ts (w ∷ ws) (w ∷ ws) f.0 f.1) d))

  nested_member : (ks : List ℕ) (j k i : ℕ) → Nested ks → slice_get ks j ≡ Some k → Unsolved ss n i → occurs i (value_at ts k) ≡ true → Member i ks
  nested_member [] j k i d e u o = absurd cc
  nested_member (h ∷ ks) zero k i d e u o = inr (d.0 i u (transport (λ k. occurs i (value_at ts k) ≡ true) (sym (one_some e)) o))
  nested_member (h ∷ ks) (suc j) k i d e u o = inr (nested_member ks j k i d.1 e u o)

  behind : (h : ℕ) (ks : List ℕ) (i j : ℕ) → (Member h ks → ⊥) → Member i ks → j ≤ place_in ks i → j < place_in (h ∷ ks) i
  behind h ks i j n m l = by (eqb h i) refl
    where
      by : (b : Bool) → eqb h i ≡ b → j < cond b 0 (suc (place_in ks i))
      by true e = absurd (n (transport (λ i. Member i ks) (sym (eqb-true h i e)) m))
      by false e = omega arith

  nested_place : (ks : List ℕ) → Once ks → Nested ks → (j k i : ℕ) → slice_get ks j ≡ Some k → Unsolved ss n i → occurs i (value_at ts k) ≡ true → j < place_in ks i
  nested_place [] x d j k i e u o = absurd cc
  nested_place (h ∷ ks) x d zero k i e u o = behind h ks i 0 x.0 (d.0 i u (transport (λ k. occurs i (value_at ts k) ≡ true) (sym (one_some e)) o)) (omega arith)
  nested_place (h ∷ ks) x d (suc j) k i e u o = let r = nested_place ks x.1 d.1 j k i e u o in behind h ks i (suc j) x.0 (nested_member ks j k i d.1 e u o) (omega (arith, r))

unsolved_length : (ss : List Solution) (n : ℕ) → length (unsolved ss n) ≤ n
unsolved_length ss zero = omega arith
unsolved_length ss (suc n) = by (value_of ss n) (unsolved_length ss n)
  where
    by : (o : Option Term) → length (unsolved ss n) ≤ n → length (where_none o n (unsolved ss n)) ≤ suc n
    by None l = omega arith
    by (Some t) l = omega arith

-- the turns of the unifier keep types acyclic
chosen_can : {ts : List Term} {t u v : Term} {x : ℕ} → Chosen ts t u x v → CanSolve ts x v
chosen_can (left_one h l) = h
chosen_can (right_one h l) = h

abbrev OutcomeAcyclic : Outcome → Type 0
OutcomeAcyclic (Solved ts ss) = Acyclic ts
OutcomeAcyclic (Conflict j k) = Unit {0}
OutcomeAcyclic (Cycle x) = Unit {0}
OutcomeAcyclic (Stuck t u) = Unit {0}
OutcomeAcyclic OutOfFuel = Unit {0}
OutcomeAcyclic OutOfDepth = Unit {0}

abbrev StateAcyclic : State → Type 0
StateAcyclic (St ts es ss) = Acyclic ts

abbrev NextAcyclic : Next → Type 0
NextAcyclic (Answers o) = OutcomeAcyclic o
NextAcyclic (Goes s) = StateAcyclic s

applied : (ts : List Term) (t u : Term) (es : List Equation) (ss : List Solution) → Acyclic ts → {r : Rule} → Applies ts t u r → NextAcyclic (after r ts es ss)
applied ts t u es ss a (solves {x = x} {v = v} c) = acyclic-put ts x v (chosen_can c) a
applied ts t u es ss a (injects c) = a
applied ts t u es ss a (conflicts c) = tt
applied ts t u es ss a (cycles c) = tt
applied ts t u es ss a (sticks c) = tt

ruled : (ts : List Term) (t u : Term) (es : List Equation) (ss : List Solution) (q : Verdict) (r : Rule) → Acyclic ts → Ruled ts t u q r → NextAcyclic (after r ts es ss)
ruled ts t u es ss Yes r a d = transport (λ r. NextAcyclic (after r ts es ss)) (sym d) a
ruled ts t u es ss B.OutOfFuel r a d = transport (λ r. NextAcyclic (after r ts es ss)) (sym d) tt
ruled ts t u es ss B.OutOfDepth r a d = transport (λ r. NextAcyclic (after r ts es ss)) (sym d) tt
ruled ts t u es ss (No x y xs) r a d = applied ts t u es ss a d
ruled ts t u es ss (WaitsFor m) r a d = applied ts t u es ss a d

module _ (g : Signature Term) (fuel depth : ℕ) where
  turn_acyclic : {s : State} {x : Next} → Turn g fuel depth s x → StateAcyclic s → NextAcyclic x
  turn_acyclic done a = a
  turn_acyclic (out_left h) a = tt
  turn_acyclic (out_right h i) a = tt
  turn_acyclic (turn {ts = ts} {es = es} {ss = ss} {v = v} {w = w} q r h i c d e) a = transport NextAcyclic (sym e) (ruled ts (shown v) (shown w) es ss q r a d)

  unify_acyclic : {s : State} {o : Outcome} {m : ℕ} → Unify g fuel depth s o m → StateAcyclic s → OutcomeAcyclic o
  unify_acyclic (answers x) a = turn_acyclic x a
  unify_acyclic (goes x y) a = unify_acyclic y (turn_acyclic x a)

pub branch_in_order : (g : Signature Term) (fuel depth n : ℕ) (c : Context Term) (es : List Equation) (ts : List Term) (ss : List Solution) → Unify g fuel depth (begin c es) (Solved ts ss) n
    → (j k i : ℕ) → slice_get (keep_of (length c) ts ss) j ≡ Some k → i < length c → value_of ss i ≡ None → occurs i (value_at ts k) ≡ true → j < place_in (keep_of (length c) ts ss) i
branch_in_order g fuel depth n c es ts ss d j k i e l f o =
    let a : Acyclic ts = unify_acyclic g fuel depth d (context_acyclic c) in
    let m = length c in
    nested_place ts ss m (keep_of m ts ss) (keep_once m ts ss) (order_nested ts ss m a m (unsolved ss m) [] (unsolved_length ss m) (λ i u. inl (unsolved_has ss m i u)) tt) j k i e (record { below = l; none = f }) o
