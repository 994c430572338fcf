-- Lists of variables: what stands in them, and one of them taken out.
use Rattle.std.specs.Prelude.{◌≡◌, ◌≢◌, ℕ, ◌<◌, ◌≤◌, ◌⊎◌, Bool, true, false, eqb, cond, List, [], ◌∷◌, length, refl, zero, suc}
use Rattle.std.proofs.Common.{ap, sym, ◌∙◌, subst as transport, arith, inl, inr, eqb-true}
use Rattle.core_rules.proofs.Heads.Sound.{eqb_same}
use Rattle.unify_rules.specs.Joined.{without}

abbrev pub Member : ℕ → List ℕ → Type 0
Member i [] = ⊥
Member i (j ∷ js) = (i ≡ j) ⊎ Member i js

pub eqb_false : (i j : ℕ) → eqb i j ≡ false → i ≢ j
eqb_false i j e f = let h : eqb j j ≡ true = eqb_same j in let k : eqb j j ≡ false = ap (λ x. eqb x j) (sym f) ∙ e in cc

pub without-keeps : (x i : ℕ) (js : List ℕ) → Member i js → i ≢ x → Member i (without x js)
without-keeps x i [] m n = m
without-keeps x i (j ∷ js) m n = by (λ h. without-keeps x i js h n) (eqb j x) refl m
  where
    by : (Member i js → Member i (without x js)) → (b : Bool) → eqb j x ≡ b → (i ≡ j) ⊎ Member i js → Member i (cond b (without x js) (j ∷ without x js))
    by r true e (inl h) = absurd (n (h ∙ eqb-true j x e))
    by r true e (inr h) = r h
    by r false e (inl h) = inl h
    by r false e (inr h) = inr (r h)

pub without-within : (x i : ℕ) (js : List ℕ) → Member i (without x js) → Member i js
without-within x i [] m = m
without-within x i (j ∷ js) m = by (λ h. without-within x i js h) (eqb j x) m
  where
    by : (Member i (without x js) → Member i js) → (b : Bool) → Member i (cond b (without x js) (j ∷ without x js)) → (i ≡ j) ⊎ Member i js
    by r true h = inr (r h)
    by r false (inl h) = inl h
    by r false (inr h) = inr (r h)

length-without : (x : ℕ) (js : List ℕ) → length (without x js) ≤ length js
length-without x [] = omega arith
length-without x (j ∷ js) = by (eqb j x) (length-without x js)
  where
    by : (b : Bool) → length (without x js) ≤ length js → length (cond b (without x js) (j ∷ without x js)) ≤ suc (length js)
    by true h = omega arith
    by false h = omega arith

-- it is one less at least
pub without-falls : (x : ℕ) (js : List ℕ) → Member x js → length (without x js) < length js
without-falls x [] m = absurd m
without-falls x (j ∷ js) m = by (λ h. without-falls x js h) (eqb j x) refl m (length-without x js)
  where
    by : (Member x js → length (without x js) < length js) → (b : Bool) → eqb j x ≡ b → (x ≡ j) ⊎ Member x js → length (without x js) ≤ length js → length (cond b (without x js) (j ∷ without x js)) < suc (length js)
    by f true e h l = omega arith
    by f false e (inl h) l = absurd (eqb_false j x e (sym h))
    by f false e (inr h) l = let r : length (without x js) < length js = f h in omega arith

abbrev pub upto : ℕ → List ℕ
upto zero = []
upto (suc n) = n ∷ upto n

pub upto-has : (n i : ℕ) → i < n → Member i (upto n)
upto-has zero i l = absurd (omega arith)
upto-has (suc n) i l = by (λ h. upto-has n i h) (eqb i n) refl
  where
    by : (i < n → Member i (upto n)) → (b : Bool) → eqb i n ≡ b → (i ≡ n) ⊎ Member i (upto n)
    by r true e = inl (eqb-true i n e)
    by r false e = inr (let k : i ≢ n = eqb_false i n e in r (omega arith))

abbrev pub Dec : Type 0 → Type 0
Dec A = A ⊎ (A → ⊥)

-- one of the list has Q, or none
pub one_of : (Q : ℕ → Type 0) (js : List ℕ) → ((i : ℕ) → Member i js → Dec (Q i)) → ((i : ℕ) × Member i js × Q i) ⊎ ((i : ℕ) → Member i js → Q i → ⊥)
one_of Q [] h = inr (λ i m q. m)
one_of Q (j ∷ js) h = by (h j (inl refl)) (one_of Q js (λ i m. h i (inr m)))
  where
    none : (Q j → ⊥) → ((i : ℕ) → Member i js → Q i → ⊥) → (i : ℕ) → (i ≡ j) ⊎ Member i js → Q i → ⊥
    none n k i (inl e) q = n (transport Q e q)
    none n k i (inr m) q = k i m q

    by : Dec (Q j) → ((i : ℕ) × Member i js × Q i) ⊎ ((i : ℕ) → Member i js → Q i → ⊥) → ((i : ℕ) × ((i ≡ j) ⊎ Member i js) × Q i) ⊎ ((i : ℕ) → (i ≡ j) ⊎ Member i js → Q i → ⊥)
    by (inl q) r = inl (j, inl refl, q)
    by (inr n) (inl r) = inl (r.0, inr r.1, r.2)
    by (inr n) (inr k) = inr (none n k)
