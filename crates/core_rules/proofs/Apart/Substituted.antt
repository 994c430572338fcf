-- A term for each variable: what is put in for all variables at once, and under one binder for its own.
use Rattle.std.specs.Prelude.{◌≡◌, ℕ, ◌⊎◌, ◌+◌, ◌-◌, ◌<◌, ◌≤◌, true, false, ltb, eqb, cond, refl, zero, suc}
use Rattle.std.proofs.Common.{ap, sym, ◌∙◌, arith, ⊎_elim}
use Rattle.std.proofs.lemmas.Grind.{common_steps}
use Rattle.core_rules.specs.declared.Flag.{Flag}
use Rattle.core_rules.specs.Term.{Term, Var, App}
use Rattle.core_rules.specs.Substitution.{over, shift, subst, subst_var}
use Rattle.core_rules.specs.Laws.{IsLifted}
use Rattle.core_rules.proofs.Substitution.Traversal.{over-from, over-over, over_id}
use Rattle.core_rules.proofs.Substitution.Lifted.{over-subst, over-shift, shift_variable, shift_twice, shift_none, subst_shifted}
use Rattle.core_rules.proofs.Substitution.Exchange.{over_subst, subst-shift}

-- a term for each variable
abbrev pub Env : Type 0
Env = ℕ → Term

abbrev pub sub_var : Env → ℕ → ℕ → Term
sub_var s d i = cond (ltb i d) (Var i) (shift (s (i - d)) 0 d)

abbrev pub sub : Env → Term → Term
sub s t = over (sub_var s) 0 t

abbrev pub cons : Term → Env → Env
cons v s zero = v
cons v s (suc i) = s i

sub_own : (s : Env) (d : ℕ) → sub_var s (d + 1) 0 ≡ Var 0
sub_own s d = grind (arith, common_steps)

sub_low : (s : Env) (d i : ℕ) → i < d → sub_var s (d + 1) (i + 1) ≡ shift (sub_var s d i) 0 1
sub_low s d i h =
    let a : ltb (i + 1) (d + 1) ≡ true = grind (arith, common_steps) in
    let b : ltb i d ≡ true = grind (arith, common_steps) in
    rw (a, b) (sym (shift_variable i 1))

sub_high : (s : Env) (d i : ℕ) → d ≤ i → sub_var s (d + 1) (i + 1) ≡ shift (sub_var s d i) 0 1
sub_high s d i h =
    let a : ltb (i + 1) (d + 1) ≡ false = grind (arith, common_steps) in
    let b : ltb i d ≡ false = grind (arith, common_steps) in
    let o : i + 1 - (d + 1) ≡ i - d = omega arith in
    rw (a, b, o) (sym (shift_twice (s (i - d)) d 1))

two : (i k : ℕ) → (i < k) ⊎ (k ≤ i)
two i k = grind arith

three : (i k : ℕ) → (i < k) ⊎ ((i ≡ k) ⊎ (k < i))
three i k = grind arith

sub_lifted : (s : Env) → IsLifted (sub_var s)
sub_lifted s = record { own = sub_own s; later = λ d i. ⊎_elim (λ h. sub_low s d i h) (λ h. sub_high s d i h) (two i d) }

pub sub_id : (t : Term) → sub Var t ≡ t
sub_id t = over_id (sub_var Var) own_var 0 t
  where
    own_var : (d i : ℕ) → sub_var Var d i ≡ Var i
    own_var d i = ⊎_elim
        (λ h. let a : ltb i d ≡ true = grind (arith, common_steps) in rw a refl)
        (λ h. let a : ltb i d ≡ false = grind (arith, common_steps) in let o : i - d + d ≡ i = omega arith in rw a (shift_variable (i - d) d ∙ ap Var o)) (two i d)

pub sub_variable : (s : Env) (i : ℕ) → sub s (Var i) ≡ s i
sub_variable s i =
    let a : ltb i 0 ≡ false = grind (arith, common_steps) in
    let o : i - 0 ≡ i = omega arith in
    rw (a, o) (shift_none (s i) 0)

below_var : (s : Env) (v : Term) (d i : ℕ) → over (subst_var 0 v) d (sub_var s (d + 1) i) ≡ sub_var (cons v s) d i
below_var s v d i = ⊎_elim
    (λ h.
    let a : ltb i (d + 1) ≡ true = grind (arith, common_steps) in
    let b : ltb i d ≡ true = grind (arith, common_steps) in
    let c : ltb i (0 + d) ≡ true = grind (arith, common_steps) in
    rw (a, b) (rw c refl))
    (λ o. ⊎_elim
    (λ h.
    let a : ltb i (d + 1) ≡ true = grind (arith, common_steps) in
    let b : ltb i d ≡ false = grind (arith, common_steps) in
    let c : ltb i (0 + d) ≡ false = grind (arith, common_steps) in
    let e : eqb i (0 + d) ≡ true = grind (arith, common_steps) in
    let z : i - d ≡ 0 = omega arith in
    rw (a, b, z) (rw (c, e) refl))
    (λ h.
    let a : ltb i (d + 1) ≡ false = grind (arith, common_steps) in
    let b : ltb i d ≡ false = grind (arith, common_steps) in
    let z : i - d ≡ suc (i - (d + 1)) = omega arith in
    let k : 0 + d ≤ d = omega arith in
    rw (a, b, z) (over_subst 0 d v (shift (s (i - (d + 1))) 0 (d + 1)) ∙ subst_shifted (s (i - (d + 1))) (0 + d) d (shift v 0 d) k)) o) (three i d)

-- a body with a term put for its own variable
pub sub_under : (s : Env) (t v : Term) → subst (over (sub_var s) 1 t) 0 v ≡ sub (cons v s) t
sub_under s t v =
    ap (λ u. subst u 0 v) (over-from (sub_var s) (λ d. sub_var s (d + 1)) 1 0 from_one 0 t)
    ∙ over-over (subst_var 0 v) (λ d. sub_var s (d + 1)) (sub_var (cons v s)) (below_var s v) 0 t
  where
    from_one : (n i : ℕ) → sub_var s (1 + n) i ≡ sub_var s (0 + n + 1) i
    from_one n i = let p : 1 + n ≡ 0 + n + 1 = omega arith in ap (λ d. sub_var s d i) p

-- a beta step
pub sub_beta : (s : Env) (t u : Term) → sub s (subst t 0 u) ≡ sub (cons (sub s u) s) t
sub_beta s t u =
    let p : 0 + 0 ≡ 0 = omega arith in
    (rw p at (over-subst (sub_var s) (sub_lifted s) 0 0 u t)) ∙ sub_under s t (sub s u)

-- a term that does not see the binder that it stands under, applied to the binder's variable
pub sub_eta : (s : Env) (b : Flag) (t v : Term) → subst (over (sub_var s) 1 (App b (shift t 0 1) (Var 0))) 0 v ≡ App b (sub s t) v
sub_eta s b t v =
    let p : subst (over (sub_var s) 1 (shift t 0 1)) 0 v ≡ sub s t = ap (λ u. subst u 0 v) (over-shift (sub_var s) (sub_lifted s) 1 0 t) ∙ subst-shift (sub s t) 0 v in
    let q : subst (over (sub_var s) 1 (Var 0)) 0 v ≡ v = ap (λ u. subst u 0 v) (sub_own s 0) ∙ shift_none v 0 in
    λ i. App b (p i) (q i)
