-- Marks of which of x, x', x'', .. are taken, and the first that is not.
use Rattle.std.proofs.Common.{◌≡◌, ℕ, zero, suc, ◌+◌, ◌<◌, inl, inr, Bool, true, false, ◌||◌, cond, List, [], ◌∷◌, ◌++◌, length, get_or, set, refl, sym, ap, ◌∙◌, arith, get_or-set_same, get_or-set_other, length-set}
use Rattle.std.proofs.lemmas.Slice.Eq.{bytes_eq-Decides}
use Rattle.std.proofs.lemmas.Bool.{cases_eq}
use Rattle.std.specs.Str.{bytes_eq}
use Rattle.core_print.specs.Apart.{Text, is_among, apart, different}
use Rattle.core_print.specs.Labels.{primed, Marks, first_false}
use Rattle.core_print.proofs.Primes.{primed_once}

bytes_same : (x y : Text) → x ≡ y → bytes_eq x y ≡ true
bytes_same x y e = (bytes_eq-Decides x y).1 e

bytes_other : (b : Bool) (x y : Text) → bytes_eq x y ≡ b → (x ≡ y → ⊥) → b ≡ false
bytes_other true x y e h = absurd (h ((bytes_eq-Decides x y).0 e))
bytes_other false x y e h = refl

pub none_marked : (x : Text) (ms : List Bool) → ((k : ℕ) → k < length ms → get_or ms k false ≡ false) → Marks [] x ms
none_marked x ms h = record { at = h }

pub unset_push : (xs : List Bool) → ((k : ℕ) → get_or xs k false ≡ false) → (k : ℕ) → get_or (xs ++ false ∷ []) k false ≡ false
unset_push [] h zero = refl
unset_push [] h (suc k) = refl
unset_push (x ∷ xs) h zero = h 0
unset_push (x ∷ xs) h (suc k) = unset_push xs (λ i. h (suc i)) k

pub marks_kept : (ns : List Text) (x y : Text) (ms : List Bool) → ((k : ℕ) → k < length ms → y ≡ primed x k → ⊥) → Marks ns x ms → Marks (y ∷ ns) x ms
marks_kept ns x y ms h m = record {
  at = λ k l. m.at k l ∙ sym (ap (λ b. b || is_among (primed x k) ns) (bytes_other (bytes_eq y (primed x k)) y (primed x k) refl (h k l)));
}

pub marks_more : (ns : List Text) (x y : Text) (ms : List Bool) (k : ℕ) → k < length ms → y ≡ primed x k → Marks ns x ms → Marks (y ∷ ns) x (set ms k true)
marks_more ns x y ms k l e m = record {
  at = λ j b.
      elim (cases_eq j k) [
        | inl i ↦ ap (λ (n : ℕ). get_or (set ms k true) n false) i ∙ (get_or-set_same ms k true false l
            ∙ sym (ap (λ b. b || is_among (primed x j) ns) (bytes_same y (primed x j) (e ∙ ap (primed x) (sym i)))))
        | inr i ↦ get_or-set_other ms k j true false i ∙ (m.at j (omega (arith, b, length-set ms k true))
            ∙ sym (ap (λ b. b || is_among (primed x j) ns) (bytes_other (bytes_eq y (primed x j)) y (primed x j) refl (λ h. i (primed_once x j k (sym h ∙ e))))))
      ];
}

apart_at : (x : Text) (ns : List Text) (k : ℕ) (ms : List Bool) → ((j : ℕ) → j < length ms → get_or ms j false ≡ is_among (primed x (k + j)) ns)
    → apart (length ms) ns (primed x k) ≡ primed x (k + first_false ms)
apart_at x ns k [] h = let e : k ≡ k + 0 = omega arith in ap (primed x) e
apart_at x ns k (false ∷ ms) h =
    let e : k ≡ k + 0 = omega arith in
    let f : is_among (primed x k) ns ≡ false = ap (λ (i : ℕ). is_among (primed x i) ns) e ∙ sym (h 0 (omega arith)) in
    ap (λ b. cond b (apart (length ms) ns (primed x (suc k))) (primed x k)) f ∙ ap (primed x) e
apart_at x ns k (true ∷ ms) h =
    let e : k ≡ k + 0 = omega arith in
    let f : is_among (primed x k) ns ≡ true = ap (λ (i : ℕ). is_among (primed x i) ns) e ∙ sym (h 0 (omega arith)) in
    let r : apart (length ms) ns (primed x (suc k)) ≡ primed x (suc k + first_false ms) =
    apart_at x ns (suc k) ms (λ j l. let i : k + suc j ≡ suc k + j = omega arith in h (suc j) (omega (arith, l)) ∙ ap (λ (i : ℕ). is_among (primed x i) ns) i) in
    let s : suc k + first_false ms ≡ k + suc (first_false ms) = omega arith in
    ap (λ b. cond b (apart (length ms) ns (primed x (suc k))) (primed x k)) f ∙ (r ∙ ap (primed x) s)

-- the text with as many primes as there are marks before the first that is not set
pub chosen : (x : Text) (ns : List Text) (ms : List Bool) → Marks ns x ms → length ms ≡ length ns → primed x (first_false ms) ≡ different ns x
chosen x ns ms m e =
    let z : first_false ms ≡ 0 + first_false ms = omega arith in
    ap (primed x) z ∙ (sym (apart_at x ns 0 ms (λ j l. let i : j ≡ 0 + j = omega arith in m.at j l ∙ ap (λ (i : ℕ). is_among (primed x i) ns) i))
    ∙ ap (λ (n : ℕ). apart n ns x) e)
