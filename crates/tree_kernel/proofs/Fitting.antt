-- The values of a branch, checked one after the other from the outside.
use Rattle.std.proofs.Common.{◌≡◌, ◌<◌, ◌≤◌, ◌≢◌, ℕ, ◌-◌, zero, suc, List, [], ◌∷◌, length, map, take, drop, refl, ap, subst, sym, arith}
use Rattle.std.proofs.lemmas.List.{take_all}
use Rattle.std.specs.Prelude.{slice_get, Some}
use Rattle.std.specs.List.{AllByRecursion}
use Rattle.core_rules.specs.Term.{Term}
use Rattle.core_rules.specs.Substitution.{under}
use Rattle.core_rules.specs.Signature.{Entry, Context, Signature}
use Rattle.kernel_rules.specs.Outcome.{Outcome, Gives, Refuses, goes_on, stops}
use Rattle.kernel_rules.specs.Refusals.{Refusal, DeclRefusal, OfKernel, BadTree}
use Rattle.kernel_rules.specs.TermReading.{CheckOf}
use Rattle.kernel_rules.specs.TreeReading.{ValuesOf}

pub map-drop : (f : ℕ → Term) (n : ℕ) (xs : List ℕ) → map f (drop n xs) ≡ drop n (map f xs)
map-drop f zero xs = refl
map-drop f (suc n) [] = refl
map-drop f (suc n) (x ∷ xs) = map-drop f n xs

pub map-take : (f : ℕ → Term) (n : ℕ) (xs : List ℕ) → map f (take n xs) ≡ take n (map f xs)
map-take f zero xs = refl
map-take f (suc n) [] = refl
map-take f (suc n) (x ∷ xs) = ap (λ (ys : List Term). f x ∷ ys) (map-take f n xs)

pub drop-all : {X : Type 0} (n : ℕ) (xs : List X) → length xs ≤ n → drop n xs ≡ []
drop-all zero [] l = refl
drop-all zero (x ∷ xs) l = absurd (omega (arith, l))
drop-all (suc n) [] l = refl
drop-all (suc n) (x ∷ xs) l = drop-all n xs (omega (arith, l))

drop-at : {X : Type 0} (k : ℕ) (xs : List X) (x : X) → slice_get xs k ≡ Some x → drop k xs ≡ x ∷ drop (suc k) xs
drop-at k [] x e = absurd cc
drop-at zero (y ∷ xs) x e = let same : y ≡ x = cc e in ap (λ z. z ∷ xs) same
drop-at (suc k) (y ∷ xs) x e = drop-at k xs x e

pub ids-drop : (n : ℕ) (k : ℕ) (xs : List ℕ) → AllByRecursion (λ i. i < n) xs → AllByRecursion (λ i. i < n) (drop k xs)
ids-drop n zero xs h = h
ids-drop n (suc k) [] h = tt
ids-drop n (suc k) (x ∷ xs) h = ids-drop n k xs h.1

module _ (g : Signature Term) (fuel depth : ℕ) (c : Context Term) where
  -- other numbers of values and entries
  pub values-other : (ts : List Term) (es : Context Term) → length ts ≢ length es → ValuesOf g fuel depth c ts es (Refuses BadTree)
  values-other [] [] n = absurd (n refl)
  values-other [] (e ∷ es) n = refl
  values-other (t ∷ ts) [] n = refl
  values-other (t ∷ ts) (e ∷ es) n = stops BadTree (values-other ts es (λ m. n (ap suc m))) refl

  -- the outermost of the values refused
  pub values-refused : (k : ℕ) (ts : List Term) (es : Context Term) (d : DeclRefusal) → length ts ≡ length es
      → ValuesOf g fuel depth c (drop k ts) (drop k es) (Refuses d) → ValuesOf g fuel depth c ts es (Refuses d)
  values-refused zero ts es d n h = h
  values-refused (suc k) [] [] d n h = h
  values-refused (suc k) [] (e ∷ es) d n h = absurd (omega (arith, n))
  values-refused (suc k) (t ∷ ts) [] d n h = absurd (omega (arith, n))
  values-refused (suc k) (t ∷ ts) (e ∷ es) d n h = stops d (values-refused k ts es d (omega (arith, n)) h) refl

  pub values-none : (n : ℕ) (ts : List Term) (es : Context Term) → length ts ≤ n → length es ≤ n → ValuesOf g fuel depth c (drop n ts) (drop n es) (Gives tt)
  values-none n ts es l m =
      subst (λ (us : List Term). ValuesOf g fuel depth c us (drop n es) (Gives tt)) (sym (drop-all n ts l))
      (subst (λ (ds : Context Term). ValuesOf g fuel depth c [] ds (Gives tt)) (sym (drop-all n es m)) refl)

  module _ (k : ℕ) (ts : List Term) (es : Context Term) (t : Term) (e : Entry Term) (s : slice_get ts k ≡ Some t) (d : slice_get es k ≡ Some e)
      (done : ValuesOf g fuel depth c (drop (suc k) ts) (drop (suc k) es) (Gives tt)) where
    at : (r : Outcome DeclRefusal (Unit {0})) → ValuesOf g fuel depth c (t ∷ drop (suc k) ts) (e ∷ drop (suc k) es) r
        → ValuesOf g fuel depth c (drop k ts) (drop k es) r
    at r h = subst (λ (us : List Term). ValuesOf g fuel depth c us (drop k es) r) (sym (drop-at k ts t s))
        (subst (λ (ds : Context Term). ValuesOf g fuel depth c (t ∷ drop (suc k) ts) ds r) (sym (drop-at k es e d)) h)

    pub values-next : CheckOf g fuel depth c t (under (drop (suc k) ts) e.ty) (Gives tt) → ValuesOf g fuel depth c (drop k ts) (drop k es) (Gives tt)
    values-next h = at (Gives tt) (goes_on tt done (goes_on tt h refl))

    pub values-stop : (r : Refusal) → CheckOf g fuel depth c t (under (drop (suc k) ts) e.ty) (Refuses r)
        → ValuesOf g fuel depth c (drop k ts) (drop k es) (Refuses (OfKernel r))
    values-stop r h = at (Refuses (OfKernel r)) (goes_on tt done (stops r h refl))

drop-length : {X : Type 0} (n : ℕ) (xs : List X) → length (drop n xs) ≤ length xs - n
drop-length zero xs = omega arith
drop-length (suc n) [] = omega arith
drop-length (suc n) (x ∷ xs) = let h = drop-length n xs in omega (arith, h)

-- the items from n on
pub outside-is : {X : Type 0} (n : ℕ) (xs : List X) → take (length xs - n) (drop n xs) ≡ drop n xs
outside-is n xs = take_all (length xs - n) (drop n xs) (drop-length n xs)

pub check-here : (g h : Signature Term) (fuel depth : ℕ) (c d : Context Term) (t u a b : Term) → h ≡ g → d ≡ c → u ≡ t → b ≡ a
    → (o : Outcome Refusal (Unit {0})) → CheckOf h fuel depth d u b o → CheckOf g fuel depth c t a o
check-here g h fuel depth c d t u a b e1 e2 e3 e4 o k =
    subst (λ (x : Signature Term). CheckOf x fuel depth c t a o) e1 (subst (λ (x : Context Term). CheckOf h fuel depth x t a o) e2
    (subst (λ (x : Term). CheckOf h fuel depth d x a o) e3 (subst (λ (x : Term). CheckOf h fuel depth d u x o) e4 k)))
