-- One argument after another is all of them at once.
use Rattle.std.proofs.Common.{◌≡◌, ◌<◌, ◌≤◌, ℕ, suc, ◌+◌, ◌-◌, ltb, eqb, true, false, List, [], ◌∷◌, length, get_or, refl, sym, ap, subst, ◌∙◌, arith}
use Rattle.std.specs.Prelude.{◌⊎◌}
use Rattle.std.proofs.Common.{inl, inr}
use Rattle.std.proofs.lemmas.Grind.{common_steps}
use Rattle.core_rules.specs.Term.{Term, Var, Sort}
use Rattle.core_rules.specs.Substitution.{over, subst as put, subst_var}
use Rattle.core_rules.proofs.Substitution.Traversal.{over-over, over_id}
use Rattle.core_rules.proofs.Substitution.Lifted.{over_start, subst_shifted_under}
use Rattle.term_pool.specs.Placed.{filled, filled_var}

two : (i k : ℕ) → (i < k) ⊎ (k ≤ i)
two i k = grind arith

three : (i k : ℕ) → (i < k) ⊎ ((i ≡ k) ⊎ (k < i))
three i k = grind arith

none : (d i : ℕ) → (i < d) ⊎ (d ≤ i) → filled_var [] d i ≡ Var i
none d i (inl h) = let a : ltb i d ≡ true = grind (arith, common_steps) in rw a refl
none d i (inr h) = let a : ltb i d ≡ false = grind (arith, common_steps) in let b : ltb (i - d) 0 ≡ false = grind (arith, common_steps) in let e : i - 0 ≡ i = omega arith in rw (a, b, e) refl

-- no arguments
pub filled_none : (t : Term) → filled [] t ≡ t
filled_none t = over_id (filled_var []) (λ d i. none d i (two i d)) 0 t

pub under_none : (t : Term) → over (filled_var []) 1 t ≡ t
under_none t = over_id (filled_var []) (λ d i. none d i (two i d)) 1 t

-- a variable that stands for an argument, or for none
later : (r : List Term) (u : Term) (d i : ℕ) → d < i → (i - (d + 1) < length r) ⊎ (length r ≤ i - (d + 1)) → over (subst_var 0 u) d (filled_var r (d + 1) i) ≡ filled_var (u ∷ r) d i
later r u d i l (inl h) =
    let a : ltb i (d + 1) ≡ false = grind (arith, common_steps) in
    let b : ltb (i - (d + 1)) (length r) ≡ true = grind (arith, common_steps) in
    let c : ltb i d ≡ false = grind (arith, common_steps) in
    let e : i - d ≡ suc (i - (d + 1)) = omega arith in
    let f : ltb (suc (i - (d + 1))) (length (u ∷ r)) ≡ true = grind (arith, common_steps) in
    rw (a, b, c, e, f) (subst_shifted_under (get_or r (i - (d + 1)) (Sort 0)) 0 d d u (omega arith))
later r u d i l (inr h) =
    let a : ltb i (d + 1) ≡ false = grind (arith, common_steps) in
    let b : ltb (i - (d + 1)) (length r) ≡ false = grind (arith, common_steps) in
    let c : ltb i d ≡ false = grind (arith, common_steps) in
    let e : ltb (i - d) (length (u ∷ r)) ≡ false = grind (arith, common_steps) in
    let f : ltb (i - length r) (0 + d) ≡ false = grind (arith, common_steps) in
    let g : eqb (i - length r) (0 + d) ≡ false = grind (arith, common_steps) in
    let k : i - length r - 1 ≡ i - length (u ∷ r) = omega arith in
    rw (a, b, c, e) (rw (f, g) (ap Var k))

one-more : (r : List Term) (u : Term) (d i : ℕ) → (i < d) ⊎ ((i ≡ d) ⊎ (d < i)) → over (subst_var 0 u) d (filled_var r (d + 1) i) ≡ filled_var (u ∷ r) d i
one-more r u d i (inl h) =
    let a : ltb i (d + 1) ≡ true = grind (arith, common_steps) in
    let b : ltb i d ≡ true = grind (arith, common_steps) in
    let c : ltb i (0 + d) ≡ true = grind (arith, common_steps) in
    rw (a, b) (rw c refl)
one-more r u d i (inr (inl h)) =
    let a : ltb i (d + 1) ≡ true = grind (arith, common_steps) in
    let b : ltb i d ≡ false = grind (arith, common_steps) in
    let c : ltb i (0 + d) ≡ false = grind (arith, common_steps) in
    let e : eqb i (0 + d) ≡ true = grind (arith, common_steps) in
    let f : i - d ≡ 0 = omega arith in
    let k : ltb 0 (length (u ∷ r)) ≡ true = grind (arith, common_steps) in
    rw (a, b, f, k) (rw (c, e) refl)
one-more r u d i (inr (inr h)) = later r u d i h (two (i - (d + 1)) (length r))

-- where t stands under one binder more, its own argument comes first
pub filled_more : (r : List Term) (t u : Term) → put (over (filled_var r) 1 t) 0 u ≡ filled (u ∷ r) t
filled_more r t u =
    let start : over (filled_var r) 1 t ≡ over (λ j i. filled_var r (1 + j) i) 0 t = over_start (filled_var r) 1 t in
    ap (λ v. put v 0 u) start
    ∙ over-over (subst_var 0 u) (λ j i. filled_var r (1 + j) i) (filled_var (u ∷ r))
    (λ d i. let e : 1 + d ≡ d + 1 = omega arith in subst (λ n. over (subst_var 0 u) d (filled_var r n i) ≡ filled_var (u ∷ r) d i) (sym e) (one-more r u d i (three i d))) 0 t
