-- A change that is lifted under binders passes shifts, substitutions and environments.
use Rattle.std.specs.Prelude.{◌≡◌, ℕ, ◌⊎◌, ◌+◌, ◌-◌, ◌<◌, ◌≤◌, true, false, ltb, eqb, cond, List, map, refl, zero, suc}
use Rattle.std.proofs.Common.{ap, sym, ◌∙◌, arith, add_assoc, add-zero, zero-add, ⊎_elim}
use Rattle.std.proofs.Math.ListN.{get_or-map}
use Rattle.std.proofs.lemmas.Grind.{common_steps}
use Rattle.core_rules.specs.Term.{Term, Var, Sort}
use Rattle.core_rules.specs.Substitution.{over, shift, shift_var, subst, subst_var, env_var, under, value_at}
use Rattle.core_rules.specs.Laws.{IsLifted}
use Rattle.core_rules.proofs.Substitution.Traversal.{over-from, over-swap, over-over, over_id}

shift-shift_var : (from m n to d i : ℕ) → from ≤ to → to ≤ from + m → over (shift_var to n) d (shift_var from m d i) ≡ shift_var from (m + n) d i
shift-shift_var from m n to d i h k = grind (arith, common_steps)

pub shift-shift : (t : Term) (from m n to : ℕ) → from ≤ to → to ≤ from + m → shift (shift t from m) to n ≡ shift t from (m + n)
shift-shift t from m n to h k = over-over _ _ _ (λ d i. shift-shift_var from m n to d i h k) 0 t

no_shift_var : (from d i : ℕ) → shift_var from 0 d i ≡ Var i
no_shift_var from d i = grind (arith, common_steps)

pub shift_none : (t : Term) (from : ℕ) → shift t from 0 ≡ t
shift_none t from = over_id _ (no_shift_var from) 0 t

shift_from_var : (from by d n i : ℕ) → shift_var from by (d + n) i ≡ shift_var (from + d) by (0 + n) i
shift_from_var from by d n i = grind (arith, common_steps)

-- under d binders a shift counts from d further on
pub over_shift : (from by d : ℕ) (t : Term) → over (shift_var from by) d t ≡ shift t (from + d) by
over_shift from by d t = rw add-zero at (over-from (shift_var from by) (shift_var (from + d) by) d 0 (shift_from_var from by d) 0 t)

split : (i k : ℕ) → (i < k) ⊎ (k ≤ i)
split i k = grind arith

pub shift_variable : (i n : ℕ) → shift (Var i) 0 n ≡ Var (i + n)
shift_variable i n = grind (arith, common_steps)

pub shift_twice : (t : Term) (m n : ℕ) → shift (shift t 0 m) 0 n ≡ shift t 0 (m + n)
shift_twice t m n = shift-shift t 0 m n 0 (omega arith) (omega arith)

-- a shift that begins among the variables that a shift has made
pub shift_at : (t : Term) (k n : ℕ) → over (shift_var 0 n) k (shift t 0 k) ≡ shift t 0 (k + n)
shift_at t k n = over_shift 0 n k (shift t 0 k) ∙ shift-shift t 0 k n (0 + k) (omega arith) (omega arith)

subst_shift_var : (at k d i : ℕ) (u : Term) → at ≤ k → over (subst_var at u) d (shift_var 0 (k + 1) d i) ≡ shift_var 0 k d i
subst_shift_var at k d i u h = grind (arith, common_steps)

-- a substitution for a variable that a shift has made
pub subst_shifted : (t : Term) (at k : ℕ) (u : Term) → at ≤ k → subst (shift t 0 (k + 1)) at u ≡ shift t 0 k
subst_shifted t at k u h = over-over _ _ _ (λ d i. subst_shift_var at k d i u h) 0 t

module _ (f : ℕ → ℕ → Term) (l : IsLifted f) where
  -- a variable of one of the k binders stays
  pub own_variable : (k d i : ℕ) → i < k → f (d + k) i ≡ Var i
  own_variable zero d i h = absurd (omega arith)
  own_variable (suc k) d zero h = let e : d + suc k ≡ d + k + 1 = omega arith in rw e (l.own (d + k))
  own_variable (suc k) d (suc i) h =
      let e : d + suc k ≡ d + k + 1 = omega arith in
      let o : suc i ≡ i + 1 = omega arith in
      rw (e, o) (l.later (d + k) i ∙ (ap (λ t. shift t 0 1) (own_variable k d i (omega arith)) ∙ shift_variable i 1))

  -- any other is what it is outside them, shifted
  pub later_variable : (k d i : ℕ) → f (d + k) (i + k) ≡ shift (f d i) 0 k
  later_variable zero d i = rw (add-zero, add-zero) (sym (shift_none (f d i) 0))
  later_variable (suc k) d i =
      let e : d + suc k ≡ d + k + 1 = omega arith in
      let o : i + suc k ≡ i + k + 1 = omega arith in
      let s : suc k ≡ k + 1 = omega arith in
      rw (e, o, s) (l.later (d + k) (i + k) ∙ (ap (λ t. shift t 0 1) (later_variable k d i) ∙ shift_twice (f d i) k 1))

-- a change that starts at d binders, as one that starts at none
pub over_start : (f : ℕ → ℕ → Term) (d : ℕ) (t : Term) → over f d t ≡ over (λ j i. f (d + j) i) 0 t
over_start f d t = rw add-zero at (over-from f (λ j i. f (d + j) i) d 0 (λ n i. rw zero-add refl) 0 t)

module _ (f : ℕ → ℕ → Term) (l : IsLifted f) where
  shift_low : (n d j i : ℕ) → i < j → f (d + n + j) (cond (ltb i (0 + j)) i (i + n)) ≡ over (shift_var 0 n) j (f (d + j) i)
  shift_low n d j i h =
      let t : ltb i (0 + j) ≡ true = grind (arith, common_steps) in
      rw (t, own_variable f l j (d + n) i h, own_variable f l j d i h) (rw t refl)

  shift_high : (n d j i : ℕ) → f (d + n + j) (cond (ltb (i + j) (0 + j)) (i + j) (i + j + n)) ≡ over (shift_var 0 n) j (f (d + j) (i + j))
  shift_high n d j i =
      let t : ltb (i + j) (0 + j) ≡ false = grind (arith, common_steps) in
      let p : d + n + j ≡ d + (j + n) = omega arith in
      let q : i + j + n ≡ i + (j + n) = omega arith in
      rw (t, p, q, later_variable f l (j + n) d i, later_variable f l j d i) (sym (shift_at (f d i) j n))

  shift_each : (n d j i : ℕ) → f (d + n + j) (cond (ltb i (0 + j)) i (i + n)) ≡ over (shift_var 0 n) j (f (d + j) i)
  shift_each n d j i = ⊎_elim (λ h. shift_low n d j i h) (λ h. let e : i ≡ i - j + j = omega arith in rw e (shift_high n d j (i - j))) (split i j)

  -- under n binders a change passes the shift by n
  pub over-shift : (n d : ℕ) (t : Term) → over f (d + n) (shift t 0 n) ≡ shift (over f d t) 0 n
  over-shift n d t =
      over_start f (d + n) (shift t 0 n)
      ∙ (over-swap (λ j i. f (d + n + j) i) (shift_var 0 n) (shift_var 0 n) (λ j i. f (d + j) i) (λ j i. shift_each n d j i) 0 t
      ∙ ap (λ u. shift u 0 n) (sym (over_start f d t)))

-- the same change, started at j binders
pub over_further : (f : ℕ → ℕ → Term) (d j : ℕ) (t : Term) → over (λ n i. f (d + n) i) j t ≡ over f (d + j) t
over_further f d j t = over_start (λ n i. f (d + n) i) j t ∙ (over-from (λ n i. f (d + (j + n)) i) (λ n i. f (d + j + n) i) 0 0 (λ n i. simp (add_assoc, zero-add) refl) 0 t ∙ sym (over_start f (d + j) t))

subst_shift_each : (at j k n i : ℕ) (u : Term) → at + j ≤ k → subst_var at u (j + n) (cond (ltb i (0 + n)) i (i + (k + 1))) ≡ shift_var 0 k n i
subst_shift_each at j k n i u h = grind (arith, common_steps)

-- under j binders too
pub subst_shifted_under : (t : Term) (at j k : ℕ) (u : Term) → at + j ≤ k → over (subst_var at u) j (shift t 0 (k + 1)) ≡ shift t 0 k
subst_shifted_under t at j k u h = over_start (subst_var at u) j (shift t 0 (k + 1)) ∙ over-over _ _ _ (λ n i. subst_shift_each at j k n i u h) 0 t

module _ (f : ℕ → ℕ → Term) (l : IsLifted f) (a d : ℕ) (u : Term) where
  subst_low : (j i : ℕ) → i < a + j → over (λ n i. f (d + a + n) i) j (subst_var a u j i) ≡ over (subst_var a (over f (d + a) u)) j (f (d + a + 1 + j) i)
  subst_low j i h =
      let t : ltb i (a + j) ≡ true = grind (arith, common_steps) in
      let p : d + a + j ≡ d + (a + j) = omega arith in
      let q : d + a + 1 + j ≡ d + 1 + (a + j) = omega arith in
      rw (t, p, q, own_variable f l (a + j) d i h, own_variable f l (a + j) (d + 1) i h) (rw t refl)

  subst_same : (j : ℕ) → over (λ n i. f (d + a + n) i) j (subst_var a u j (a + j)) ≡ over (subst_var a (over f (d + a) u)) j (f (d + a + 1 + j) (a + j))
  subst_same j =
      let t : ltb (a + j) (a + j) ≡ false = grind (arith, common_steps) in
      let e : eqb (a + j) (a + j) ≡ true = grind (arith, common_steps) in
      let q : d + a + 1 + j ≡ d + 1 + (a + j) = omega arith in
      let v : f (d + 1 + (a + j)) (a + j) ≡ Var (a + j) = rw zero-add at (later_variable f l (a + j) (d + 1) 0 ∙ (ap (λ t. shift t 0 (a + j)) (l.own d) ∙ shift_variable 0 (a + j))) in
      rw (t, e, q, v) (rw (t, e) (over_further f (d + a) j (shift u 0 j) ∙ over-shift f l j (d + a) u))

  subst_high : (j i : ℕ) → over (λ n i. f (d + a + n) i) j (subst_var a u j (i + (a + j + 1))) ≡ over (subst_var a (over f (d + a) u)) j (f (d + a + 1 + j) (i + (a + j + 1)))
  subst_high j i =
      let t : ltb (i + (a + j + 1)) (a + j) ≡ false = grind (arith, common_steps) in
      let e : eqb (i + (a + j + 1)) (a + j) ≡ false = grind (arith, common_steps) in
      let o : i + (a + j + 1) - 1 ≡ i + (a + j) = omega arith in
      let p : d + a + j ≡ d + (a + j) = omega arith in
      let q : d + a + 1 + j ≡ d + (a + j + 1) = omega arith in
      rw (t, e, o, p, q, later_variable f l (a + j) d i, later_variable f l (a + j + 1) d i) (sym (subst_shifted_under (f d i) a j (a + j) (over f (d + a) u) (omega arith)))

  subst_each : (j i : ℕ) → over (λ n i. f (d + a + n) i) j (subst_var a u j i) ≡ over (subst_var a (over f (d + a) u)) j (f (d + a + 1 + j) i)
  subst_each j i = ⊎_elim (λ h. subst_low j i h)
      (λ h. ⊎_elim (λ m. let e : i ≡ a + j = omega arith in rw e (subst_same j)) (λ m. let e : i ≡ i - (a + j + 1) + (a + j + 1) = omega arith in rw e (subst_high j (i - (a + j + 1)))) (split i (a + j + 1)))
      (split i (a + j))

  -- a change passes a substitution
  pub over-subst : (t : Term) → over f (d + a) (subst t a u) ≡ subst (over f (d + a + 1) t) a (over f (d + a) u)
  over-subst t =
      over_start f (d + a) (subst t a u)
      ∙ (over-swap (λ n i. f (d + a + n) i) (subst_var a u) (subst_var a (over f (d + a) u)) (λ n i. f (d + a + 1 + n) i) subst_each 0 t
      ∙ ap (λ v. subst v a (over f (d + a) u)) (sym (over_start f (d + a + 1) t)))

module _ (f : ℕ → ℕ → Term) (l : IsLifted f) (d : ℕ) (r : List Term) where
  env_low : (j i : ℕ) → i < j → over (λ n i. f (d + n) i) j (env_var r j i) ≡ env_var (map (over f d) r) j i
  env_low j i h =
      let t : ltb i j ≡ true = grind (arith, common_steps) in
      rw (t, own_variable f l j d i h) refl

  env_high : (j i : ℕ) → j ≤ i → over (λ n i. f (d + n) i) j (env_var r j i) ≡ env_var (map (over f d) r) j i
  env_high j i h =
      let t : ltb i j ≡ false = grind (arith, common_steps) in
      rw t (over_further f d j (shift (value_at r (i - j)) 0 j) ∙ (over-shift f l j d (value_at r (i - j)) ∙ ap (λ v. shift v 0 j) (sym (get_or-map (over f d) r (i - j) (Sort 0)))))

  -- a change passes an environment: what stands in the environment is changed, and nothing else, since a variable without a value becomes a closed term
  pub over-under : (t : Term) → over f d (under r t) ≡ under (map (over f d) r) t
  over-under t = over_start f d (under r t)
      ∙ over-over (λ n i. f (d + n) i) (env_var r) (env_var (map (over f d) r)) (λ j i. ⊎_elim (λ h. env_low j i h) (λ h. env_high j i h) (split i j)) 0 t
