-- The laws of shifting, substitution and environments.
use Rattle.std.specs.Prelude.{◌≡◌, ℕ, ◌⊎◌, ◌+◌, ◌-◌, ◌<◌, ◌≤◌, true, false, ltb, eqb, List, ◌∷◌, map, drop, refl, suc}
use Rattle.std.proofs.Common.{ap, sym, ◌∙◌, arith, add-zero, zero-add, ⊎_elim}
use Rattle.std.proofs.lemmas.List.{get_or-drop}
use Rattle.std.proofs.lemmas.Grind.{common_steps}
use Rattle.core_rules.specs.Term.{Term, Var, Sort}
use Rattle.core_rules.specs.Substitution.{over, shift, shift_var, subst, subst_var, env_var, under}
use Rattle.core_rules.specs.Laws.{IsLifted}
use Rattle.core_rules.proofs.Substitution.Traversal.{over-from, over-over, over-swap, over_id}
use Rattle.core_rules.proofs.Substitution.Lifted.{over-subst, over-shift, over-under, over_shift, shift_twice}
use Rattle.core_rules.proofs.Substitution.Changes.{shift_lifted, subst_lifted, env_lifted}

swap_var : (from by at to : ℕ) (d i : ℕ) → from ≤ to → over (shift_var (to + by) at) d (shift_var from by d i) ≡ over (shift_var from by) d (shift_var to at d i)
swap_var from by at to d i h = grind (arith, common_steps)

-- two shifts pass each other
pub shift-shift_swap : (t : Term) (from by to at : ℕ) → from ≤ to → shift (shift t from by) (to + by) at ≡ shift (shift t to at) from by
shift-shift_swap t from by to at h = over-swap _ _ _ _ (λ d i. swap_var from by at to d i h) 0 t

subst_here : (at n d i : ℕ) (v : Term) → subst_var at v (d + n) i ≡ subst_var (at + d) (shift v 0 d) (0 + n) i
subst_here at n d i v = ⊎_elim
    (λ h. let a : ltb i (at + (d + n)) ≡ true = grind (arith, common_steps) in let b : ltb i (at + d + (0 + n)) ≡ true = grind (arith, common_steps) in rw (a, b) refl)
    (λ o. ⊎_elim
    (λ h. let a : ltb i (at + (d + n)) ≡ false = grind (arith, common_steps) in let b : ltb i (at + d + (0 + n)) ≡ false = grind (arith, common_steps) in
    let c : eqb i (at + (d + n)) ≡ true = grind (arith, common_steps) in let e : eqb i (at + d + (0 + n)) ≡ true = grind (arith, common_steps) in rw (a, b, c, e) (rw zero-add (sym (shift_twice v d n))))
    (λ h. let a : ltb i (at + (d + n)) ≡ false = grind (arith, common_steps) in let b : ltb i (at + d + (0 + n)) ≡ false = grind (arith, common_steps) in
    let c : eqb i (at + (d + n)) ≡ false = grind (arith, common_steps) in let e : eqb i (at + d + (0 + n)) ≡ false = grind (arith, common_steps) in rw (a, b, c, e) refl) o)
    (three i (at + (d + n)))
  where
    three : (i k : ℕ) → (i < k) ⊎ ((i ≡ k) ⊎ (k < i))
    three i k = grind arith

-- a substitution under d binders is one for a variable that is d further
pub over_subst : (at d : ℕ) (v t : Term) → over (subst_var at v) d t ≡ subst t (at + d) (shift v 0 d)
over_subst at d v t = rw add-zero at (over-from (subst_var at v) (subst_var (at + d) (shift v 0 d)) d 0 (λ n i. subst_here at n d i v) 0 t)

-- a change that starts outside the place of a substitution passes it
module _ (f : ℕ → ℕ → Term) (l : IsLifted f) where
  pub over-subst_at : (t : Term) (at : ℕ) (u : Term) → over f at (subst t at u) ≡ subst (over f (at + 1) t) at (over f at u)
  over-subst_at t at u = rw zero-add at (over-subst f l at 0 u t)

pub shift-subst_outside : (t : Term) (at from by : ℕ) (u : Term) → shift (subst t at u) (from + at) by ≡ subst (shift t (from + at + 1) by) at (shift u (from + at) by)
shift-subst_outside t at from by u =
    let p : from + (at + 1) ≡ from + at + 1 = omega arith in
    sym (over_shift from by at (subst t at u)) ∙ (over-subst_at (shift_var from by) (shift_lifted from by) t at u
    ∙ cc (over_shift from by (at + 1) t, over_shift from by at u, p))

low : (at from by : ℕ) (u : Term) (d i : ℕ) → i < at + d → from ≤ at → over (shift_var from by) d (subst_var at u d i) ≡ over (subst_var (at + by) (shift u from by)) d (shift_var from by d i)
low at from by u d i l h = grind (arith, common_steps)

high : (at from by : ℕ) (u : Term) (d i : ℕ) → at + d < i → from ≤ at → over (shift_var from by) d (subst_var at u d i) ≡ over (subst_var (at + by) (shift u from by)) d (shift_var from by d i)
high at from by u d i l h = grind (arith, common_steps)

same : (at from by : ℕ) (u : Term) (d i : ℕ) → i ≡ at + d → from ≤ at → over (shift_var from by) d (subst_var at u d i) ≡ over (subst_var (at + by) (shift u from by)) d (shift_var from by d i)
same at from by u d i l h =
    let s : over (shift_var from by) d (shift u 0 d) ≡ shift (shift u from by) 0 d = rw zero-add at (over-shift (shift_var from by) (shift_lifted from by) d 0 u) in
    grind (arith, common_steps, s)

three : (i k : ℕ) → (i < k) ⊎ ((i ≡ k) ⊎ (k < i))
three i k = grind arith

-- where from ≤ at, a shift passes a substitution
pub shift-subst_inside : (t : Term) (at from by : ℕ) (u : Term) → from ≤ at → shift (subst t at u) from by ≡ subst (shift t from by) (at + by) (shift u from by)
shift-subst_inside t at from by u h = over-swap _ _ _ _ (λ d i.
    ⊎_elim (λ l. low at from by u d i l h) (λ o. ⊎_elim (λ e. same at from by u d i e h) (λ l. high at from by u d i l h) o) (three i (at + d))) 0 t

subst-shift_var : (at : ℕ) (u : Term) (d i : ℕ) → over (subst_var at u) d (shift_var at 1 d i) ≡ Var i
subst-shift_var at u d i = grind (arith, common_steps)

-- a substitution for the variable that a shift has made
pub subst-shift : (t : Term) (at : ℕ) (u : Term) → subst (shift t at 1) at u ≡ t
subst-shift t at u = over-over (subst_var at u) (shift_var at 1) (λ d i. Var i) (λ d i. subst-shift_var at u d i) 0 t ∙ over_id (λ d i. Var i) (λ d i. refl) 0 t

-- substitution after substitution; v stands in the context of the result but for the first `at` variables
pub subst-subst : (t : Term) (at to : ℕ) (u v : Term)
    → subst (subst t at u) (to + at) (shift v 0 at) ≡ subst (subst t (to + (at + 1)) (shift v 0 (at + 1))) at (subst u (to + at) (shift v 0 at))
subst-subst t at to u v =
    sym (over_subst to at v (subst t at u)) ∙ (over-subst_at (subst_var to v) (subst_lifted to v) t at u ∙ cc (over_subst to (at + 1) v t, over_subst to at v u))

-- a shift, a substitution and an environment pass an environment
pub shift-under : (r : List Term) (t : Term) (from by : ℕ) → shift (under r t) from by ≡ under (map (λ u. shift u from by) r) t
shift-under r t from by = over-under (shift_var from by) (shift_lifted from by) 0 r t

pub subst-under : (r : List Term) (t : Term) (at : ℕ) (u : Term) → subst (under r t) at u ≡ under (map (λ v. subst v at u) r) t
subst-under r t at u = over-under (subst_var at u) (subst_lifted at u) 0 r t

pub under-under : (r s : List Term) (t : Term) → under r (under s t) ≡ under (map (under r) s) t
under-under r s t = over-under (env_var r) (env_lifted r) 0 s t

drop_var : (r : List Term) (n d i : ℕ) → over (env_var r) d (shift_var 0 n d i) ≡ env_var (drop n r) d i
drop_var r n d i = ⊎_elim
    (λ h. let a : ltb i (0 + d) ≡ true = grind (arith, common_steps) in let b : ltb i d ≡ true = grind (arith, common_steps) in rw (a, b) refl)
    (λ h. let a : ltb i (0 + d) ≡ false = grind (arith, common_steps) in let b : ltb i d ≡ false = grind (arith, common_steps) in let c : ltb (i + n) d ≡ false = grind (arith, common_steps) in
    let o : i + n - d ≡ n + (i - d) = omega arith in
    rw (a, b, c, o) (ap (λ t. shift t 0 d) (sym (get_or-drop n r (i - d) (Sort 0))))) (two i d)
  where
    two : (i k : ℕ) → (i < k) ⊎ (k ≤ i)
    two i k = grind arith

-- an environment in a shifted term: the first n values are not read
pub under-shift : (r : List Term) (t : Term) (n : ℕ) → under r (shift t 0 n) ≡ under (drop n r) t
under-shift r t n = over-over (env_var r) (shift_var 0 n) (env_var (drop n r)) (drop_var r n) 0 t

pub env_first : (u : Term) (r : List Term) (d i : ℕ) → over (env_var r) d (subst_var 0 u d i) ≡ env_var (under r u ∷ r) d i
env_first u r d i = ⊎_elim
    (λ h. let a : ltb i (0 + d) ≡ true = grind (arith, common_steps) in let b : ltb i d ≡ true = grind (arith, common_steps) in rw (a, b) refl)
    (λ o. ⊎_elim
    (λ h. let a : ltb i (0 + d) ≡ false = grind (arith, common_steps) in let b : ltb i d ≡ false = grind (arith, common_steps) in let c : eqb i (0 + d) ≡ true = grind (arith, common_steps) in
    let o : i - d ≡ 0 = omega arith in
    rw (a, b, c, o) (rw zero-add at (over-shift (env_var r) (env_lifted r) d 0 u)))
    (λ h. let a : ltb i (0 + d) ≡ false = grind (arith, common_steps) in let b : ltb i d ≡ false = grind (arith, common_steps) in let c : eqb i (0 + d) ≡ false = grind (arith, common_steps) in
    let e : ltb (i - 1) d ≡ false = grind (arith, common_steps) in let o : i - d ≡ suc (i - 1 - d) = omega arith in
    rw (a, b, c, o) (rw e refl)) o)
    (three i d)

-- an environment in a substituted term: the value of the variable under the environment comes first
pub under-subst : (r : List Term) (t u : Term) → under r (subst t 0 u) ≡ under (under r u ∷ r) t
under-subst r t u = over-over (env_var r) (subst_var 0 u) (env_var (under r u ∷ r)) (env_first u r) 0 t
