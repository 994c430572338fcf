-- Shifts, substitutions and environments are lifted under binders; what follows of them from the laws of such changes.
use Rattle.std.specs.Prelude.{◌≡◌, ℕ, ◌⊎◌, ◌+◌, ◌-◌, ◌<◌, ◌≤◌, true, false, ltb, eqb, cond, List, refl}
use Rattle.std.proofs.Common.{sym, arith, ⊎_elim}
use Rattle.std.proofs.lemmas.Grind.{common_steps}
use Rattle.core_rules.specs.Term.{Term, Var}
use Rattle.core_rules.specs.Substitution.{shift, shift_var, subst_var, env_var, value_at}
use Rattle.core_rules.specs.Laws.{IsLifted}
use Rattle.core_rules.proofs.Substitution.Lifted.{shift_twice, shift_variable}
use Rattle.core_rules.proofs.Run.Constructors.{IsVariable}

shift_later : (from by d i : ℕ) → shift_var from by (d + 1) (i + 1) ≡ shift (shift_var from by d i) 0 1
shift_later from by d i = grind (arith, common_steps)

shift_own : (from by d : ℕ) → shift_var from by (d + 1) 0 ≡ Var 0
shift_own from by d = grind (arith, common_steps)

pub shift_lifted : (from by : ℕ) → IsLifted (shift_var from by)
shift_lifted from by = record { own = shift_own from by; later = shift_later from by }

pub shift_variables : (from by d i : ℕ) → IsVariable (shift_var from by d i)
shift_variables from by d i = record { at = cond (ltb i (from + d)) i (i + by); is = refl }

subst_own : (at : ℕ) (u : Term) (d : ℕ) → subst_var at u (d + 1) 0 ≡ Var 0
subst_own at u d = grind (arith, common_steps)

subst_low : (at : ℕ) (u : Term) (d i : ℕ) → i < at + d → subst_var at u (d + 1) (i + 1) ≡ shift (subst_var at u d i) 0 1
subst_low at u d i h = grind (arith, common_steps)

subst_same : (at : ℕ) (u : Term) (d i : ℕ) → i ≡ at + d → subst_var at u (d + 1) (i + 1) ≡ shift (subst_var at u d i) 0 1
subst_same at u d i h =
    let a : ltb (i + 1) (at + (d + 1)) ≡ false = grind (arith, common_steps) in
    let b : eqb (i + 1) (at + (d + 1)) ≡ true = grind (arith, common_steps) in
    let c : ltb i (at + d) ≡ false = grind (arith, common_steps) in
    let e : eqb i (at + d) ≡ true = grind (arith, common_steps) in
    rw (a, b, c, e) (sym (shift_twice u d 1))

subst_high : (at : ℕ) (u : Term) (d i : ℕ) → at + d < i → subst_var at u (d + 1) (i + 1) ≡ shift (subst_var at u d i) 0 1
subst_high at u d i h = grind (arith, common_steps)

pub subst_lifted : (at : ℕ) (u : Term) → IsLifted (subst_var at u)
subst_lifted at u = record { own = subst_own at u; later = λ d i. ⊎_elim (λ h. subst_low at u d i h) (λ o. ⊎_elim (λ e. subst_same at u d i e) (λ h. subst_high at u d i h) o) (three i (at + d)) }
  where
    three : (i k : ℕ) → (i < k) ⊎ ((i ≡ k) ⊎ (k < i))
    three i k = grind arith

env_own : (r : List Term) (d : ℕ) → env_var r (d + 1) 0 ≡ Var 0
env_own r d = grind (arith, common_steps)

env_low : (r : List Term) (d i : ℕ) → i < d → env_var r (d + 1) (i + 1) ≡ shift (env_var r d i) 0 1
env_low r d i h =
    let a : ltb (i + 1) (d + 1) ≡ true = grind (arith, common_steps) in
    let b : ltb i d ≡ true = grind (arith, common_steps) in
    rw (a, b) (sym (shift_variable i 1))

env_high : (r : List Term) (d i : ℕ) → d ≤ i → env_var r (d + 1) (i + 1) ≡ shift (env_var r d i) 0 1
env_high r d i h =
    let a : ltb (i + 1) (d + 1) ≡ false = grind (arith, common_steps) in
    let b : ltb i d ≡ false = grind (arith, common_steps) in
    let o : i + 1 - (d + 1) ≡ i - d = omega arith in
    rw (a, b, o) (sym (shift_twice (value_at r (i - d)) d 1))

pub env_lifted : (r : List Term) → IsLifted (env_var r)
env_lifted r = record { own = env_own r; later = λ d i. ⊎_elim (λ h. env_low r d i h) (λ h. env_high r d i h) (two i d) }
  where
    two : (i k : ℕ) → (i < k) ⊎ (k ≤ i)
    two i k = grind arith
