-- The values of a split: in the context of a constructor, and with the constructor's value in the place of the variable.
use Rattle.std.specs.Prelude.{◌≡◌, ℕ, ◌+◌, ◌-◌, ◌<◌, false, ltb, cond, List, [], ◌∷◌, ◌++◌, length, map, take, drop, reverse, refl, zero, suc}
use Rattle.std.proofs.Common.{ap, ap₂, sym, ◌∙◌, arith, append_assoc, append-nil, length-append, length-take, length-drop}
use Rattle.std.proofs.lemmas.List.{length-reverse, reverse-append}
use Rattle.std.proofs.lemmas.Grind.{common_steps}
use Rattle.core_rules.specs.Term.{Term, Var}
use Rattle.core_rules.specs.Substitution.{shift, value_at, under}
use Rattle.core_rules.specs.Elimination.{vars_from}
use Rattle.core_rules.specs.Run.{spread}
use Rattle.core_rules.specs.TypedTree.{vars}
use Rattle.core_rules.proofs.Substitution.Lifted.{shift_none}

pub under-var : (s : List Term) (j : ℕ) → under s (Var j) ≡ value_at s j
under-var s j =
    let a : ltb j 0 ≡ false = grind (arith, common_steps) in
    let b : j - 0 ≡ j = omega arith in
    ap (λ z. cond z (Var j) (shift (value_at s (j - 0)) 0 0)) a ∙ (ap (λ j. shift (value_at s j) 0 0) b ∙ shift_none (value_at s j) 0)

value_past : (xs : List Term) (x : Term) (ys : List Term) (n : ℕ) → n ≡ length xs → value_at (xs ++ x ∷ ys) n ≡ x
value_past [] x ys n e = ap (value_at (x ∷ ys)) e
value_past (z ∷ xs) x ys zero e = absurd (omega (arith, e))
value_past (z ∷ xs) x ys (suc n) e = value_past xs x ys n (omega (arith, e))

-- variables at their values
vars_over : (pre xs post : List Term) (a n : ℕ) → a ≡ length pre → n ≡ length xs → map (under (pre ++ (xs ++ post))) (vars a n) ≡ xs
vars_over pre [] post a zero e h = refl
vars_over pre [] post a (suc n) e h = absurd (omega (arith, h))
vars_over pre (x ∷ xs) post a zero e h = absurd (omega (arith, h))
vars_over pre (x ∷ xs) post a (suc n) e h =
    let l : a + 1 ≡ length (pre ++ x ∷ []) = let p = length-append pre (x ∷ []) in omega (arith, p, e) in
    ap₂ (λ v vs. v ∷ vs) (under-var (pre ++ (x ∷ xs ++ post)) a ∙ value_past pre x (xs ++ post) a e)
    (ap (λ s. map (under s) (vars (a + 1) n)) (sym (append_assoc pre (x ∷ []) (xs ++ post))) ∙ vars_over (pre ++ x ∷ []) xs post (a + 1) n l (omega (arith, h)))

take_length : (k : ℕ) (r : List Term) → k < length r → length (take k r) ≡ k
take_length k r h = let p = length-take k r in omega (arith, p, h)

drop_exact : (xs ys : List Term) (k : ℕ) → k ≡ length xs → drop k (xs ++ ys) ≡ ys
drop_exact [] ys zero e = refl
drop_exact [] ys (suc k) e = absurd (omega (arith, e))
drop_exact (x ∷ xs) ys zero e = absurd (omega (arith, e))
drop_exact (x ∷ xs) ys (suc k) e = drop_exact xs ys k (omega (arith, e))

-- what the constructor's arguments stand over, in the environment of a split
abbrev pub outside : ℕ → List Term → List Term → List Term
outside k us r = reverse us ++ drop (k + 1) r

spread_outside : (k : ℕ) (us r : List Term) → spread k us r ≡ take k r ++ outside k us r
spread_outside k us r = append_assoc (take k r) (reverse us) (drop (k + 1) r)

-- the variables before the split's and after it, at their values
module _ (k n m : ℕ) (us r : List Term) (h : k < length r) (e : n ≡ length r) (l : m ≡ length us) where
  pub into_low : map (under (spread k us r)) (vars 0 k) ≡ take k r
  into_low = ap (λ s. map (under s) (vars 0 k)) (spread_outside k us r) ∙ vars_over [] (take k r) (outside k us r) 0 k refl (sym (take_length k r h))

  pub into_high : map (under (spread k us r)) (vars (k + m) (n - (k + 1))) ≡ drop (k + 1) r
  into_high =
      let t = take_length k r h in
      let d = length-drop (k + 1) r in
      let q = length-reverse us in
      let a : k + m ≡ length (take k r ++ reverse us) = let p = length-append (take k r) (reverse us) in omega (arith, p, t, q, l) in
      let b : n - (k + 1) ≡ length (drop (k + 1) r) = omega (arith, d, e) in
      ap (λ ys. map (under ((take k r ++ reverse us) ++ ys)) (vars (k + m) (n - (k + 1)))) (sym (append-nil (drop (k + 1) r)))
      ∙ vars_over (take k r ++ reverse us) (drop (k + 1) r) [] (k + m) (n - (k + 1)) a b

pub drop_spread : (k : ℕ) (us r : List Term) → k < length r → drop k (spread k us r) ≡ outside k us r
drop_spread k us r h = ap (drop k) (spread_outside k us r) ∙ drop_exact (take k r) (outside k us r) k (sym (take_length k r h))

-- an environment around one of its values
pub cut_at : (k : ℕ) (r : List Term) → k < length r → r ≡ take k r ++ value_at r k ∷ drop (k + 1) r
cut_at k [] h = absurd (omega arith)
cut_at zero (v ∷ r) h = refl
cut_at (suc k) (v ∷ r) h =
    let e : suc k + 1 ≡ suc (k + 1) = omega arith in
    ap (λ l. v ∷ l) (cut_at k r (omega arith)) ∙ ap (λ j. v ∷ (take k r ++ value_at r k ∷ drop j (v ∷ r))) (sym e)

pub new_values : (us r : List Term) (m : ℕ) → m ≡ length us → map (under (reverse us ++ r)) (vars_from 0 m) ≡ us
new_values [] r zero e = refl
new_values [] r (suc m) e = absurd (omega (arith, e))
new_values (u ∷ us) r zero e = absurd (omega (arith, e))
new_values (u ∷ us) r (suc m) e =
    let s : reverse (u ∷ us) ++ r ≡ reverse us ++ u ∷ r = ap (λ l. l ++ r) (reverse-append (u ∷ []) us) ∙ append_assoc (reverse us) (u ∷ []) r in
    let n : 0 + m ≡ length (reverse us) = let p = length-reverse us in omega (arith, p, e) in
    ap (λ s. map (under s) (vars_from 0 (suc m))) s
    ∙ ap₂ (λ v vs. v ∷ vs) (under-var (reverse us ++ u ∷ r) (0 + m) ∙ value_past (reverse us) u r (0 + m) n) (new_values us (u ∷ r) m (omega (arith, e)))

pub length-vars_from : (k n : ℕ) → length (vars_from k n) ≡ n
length-vars_from k zero = refl
length-vars_from k (suc n) = ap suc (length-vars_from k n)
