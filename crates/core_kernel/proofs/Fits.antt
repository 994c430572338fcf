-- Terms that are checked one after the other at the entries of a telescope.
use Rattle.std.proofs.Common.{◌≡◌, ℕ, ◌+◌, ◌-◌, ◌<◌, ◌≤◌, suc, zero, List, [], ◌∷◌, length, map, take, drop, refl, sym, ap, subst, ◌∙◌, arith}
use Rattle.std.specs.Prelude.{slice_get, Some, reverse, option_map}
use Rattle.std.specs.List.{AllByRecursion}
use Rattle.std.proofs.lemmas.List.{drop-map, drop_all, length-map, take_rest}
use Rattle.std.proofs.lemmas.Option.{slice_get-map}
use Rattle.el_base.proofs.Lists.{take_next, reverse_push}
use Rattle.el_base.proofs.Throughout.{all-at}
use Rattle.core_rules.specs.Term.{Term, End, And, from_list}
use Rattle.core_rules.specs.Signature.{Entry, Signature, Context}
use Rattle.core_rules.specs.Mapped.{AllEntries, entry_map, telescope_map}
use Rattle.core_rules.specs.Substitution.{under}
use Rattle.term_pool.specs.Pool.{Pool}
use Rattle.term_pool.specs.Placed.{items-stay}
use Rattle.kernel_rules.specs.Outcome.{Outcome, Gives, Refuses, Then, goes_on, stops}
use Rattle.kernel_rules.specs.Refusals.{Refusal}
use Rattle.kernel_rules.specs.TermReading.{FitsOf, CheckOf}
use Rattle.core_kernel.specs.declared.checker.Checker.{Checker}
use Rattle.core_kernel.specs.declared.error.KernelError.{KernelError}
use Rattle.core_kernel.specs.Answers.{RefusedBy}
use Rattle.core_kernel.specs.Checker.{Checks, Grows, IsReady, IsTerm, Keeps, context_of, over, signature_of, term_of}
use Rattle.core_kernel.proofs.Checking.{Grows-trans, Keeps-trans, here, refused-weaker, term_kept}
use Rattle.core_kernel.proofs.Slots.{all-drop}

pub drop_at : {A : Type 0} (xs : List A) (i : ℕ) (x : A) → slice_get xs i ≡ Some x → drop i xs ≡ x ∷ drop (i + 1) xs
drop_at [] i x h = absurd cc
drop_at (y ∷ xs) zero x h = let e : y ≡ x = cc h in ap (λ z. z ∷ xs) e
drop_at (y ∷ xs) (suc i) x h = let a : suc i + 1 ≡ suc (i + 1) = omega arith in drop_at xs i x h ∙ ap (λ n. x ∷ drop n (y ∷ xs)) (sym a)

module _ (g : Signature Term) (fuel depth : ℕ) (c : Context Term) where
  -- of n terms, the last one first, the first m are left
  abbrev pub FitsLeft : List Term → List (Entry Term) → ℕ → Outcome Refusal (Unit {0}) → Type 0
  FitsLeft ts es m = FitsOf g fuel depth c (from_list (reverse (take m ts))) (drop (length ts - m) es) (drop m ts)

  pub fits-next : (ts : List Term) (es : List (Entry Term)) (m : ℕ) (t : Term) (e : Entry Term) (r : Outcome Refusal (Unit {0})) → slice_get ts m ≡ Some t → slice_get es (length ts - (m + 1)) ≡ Some e → m < length ts
      → Then (CheckOf g fuel depth c t (under (drop (m + 1) ts) e.ty)) (λ o. FitsLeft ts es m) r → FitsLeft ts es (m + 1) r
  fits-next ts es m t e r a b l h =
      let i : ℕ = length ts - (m + 1) in
      let n : i + 1 ≡ length ts - m = omega (arith, l) in
      let p : reverse (take (m + 1) ts) ≡ t ∷ reverse (take m ts) = ap reverse (take_next ts m t a) ∙ reverse_push (take m ts) t in
      let q : drop i es ≡ e ∷ drop (length ts - m) es = drop_at es i e b ∙ ap (λ k. e ∷ drop k es) n in
      let s : drop m ts ≡ t ∷ drop (m + 1) ts = drop_at ts m t a in
      subst (λ us. FitsOf g fuel depth c (from_list us) (drop i es) (drop (m + 1) ts) r) (sym p)
      (subst (λ xs. FitsOf g fuel depth c (And t (from_list (reverse (take m ts)))) xs (drop (m + 1) ts) r) (sym q)
      (subst (λ us. Then (CheckOf g fuel depth c t (under (drop (m + 1) ts) e.ty)) (λ o. FitsOf g fuel depth c (from_list (reverse (take m ts))) (drop (length ts - m) es) us) r) s h))

terms-below : (x : Checker) (ts : List ℕ) → AllByRecursion (IsTerm x) ts → AllByRecursion (λ i. i < length x.pool.now.trees) ts
terms-below x [] a = tt
terms-below x (t ∷ ts) a = (a.0.within, terms-below x ts a.1)

module _ (x : Checker) (es : List (Entry ℕ)) (ts : List ℕ) where
  -- of the ids ts, the last one first, the first m are left
  abbrev pub FitsHere : ℕ → Outcome Refusal (Unit {0}) → Type 0
  FitsHere m o = FitsLeft (signature_of x) x.limits.fuel x.limits.depth (context_of x) (map (term_of x) ts) (telescope_map (term_of x) es) m o

  -- none is left
  pub fits-end : (left : ℕ) → left ≡ 0 → length es ≡ length ts → FitsHere left (Gives tt)
  fits-end left z n =
      let us : List Term = map (term_of x) ts in
      let xs : List (Entry Term) = telescope_map (term_of x) es in
      let a : length us ≡ length ts = length-map ts (term_of x) in
      let b : length xs ≡ length es = length-map es (entry_map (term_of x)) in
      let e : drop (length us - 0) xs ≡ [] = drop_all (length us - 0) xs (omega (arith, a, b, n)) in
      let base : FitsOf (signature_of x) x.limits.fuel x.limits.depth (context_of x) End [] us (Gives tt) = refl in
      subst (λ m. FitsHere m (Gives tt)) (sym z) (subst (λ (ys : List (Entry Term)). FitsOf (signature_of x) x.limits.fuel x.limits.depth (context_of x) End ys us (Gives tt)) (sym e) base)

-- one step of a loop over ids: y is the checker before it, z after the wanted type is put together
module _ {x y z : Checker} (r : IsReady x) (g : Grows x y) (k : Keeps x y) (g' : Grows y z) (k' : Keeps y z) where
  module _ (es : List (Entry ℕ)) (ts : List ℕ) (left t wanted : ℕ) (e : Entry ℕ) (within : AllEntries (λ i. i < length x.pool.now.trees) es) (terms : AllByRecursion (IsTerm x) ts) (some : 0 < left) (low : left ≤ length ts) (term : IsTerm x t)
      (at : slice_get ts (left - 1) ≡ Some t) (here_at : slice_get es (length ts - left) ≡ Some e) (is : term_of z wanted ≡ under (map (term_of y) (take (length ts - left) (drop left ts))) (term_of y e.ty)) where
    checks_here : (o : Outcome Refusal (Unit {0})) → Checks (over z) (term_of z t) (term_of z wanted) o → Checks (over x) (term_of x t) (term_of z wanted) o
    checks_here o h =
        let same : term_of z t ≡ term_of x t = term_kept r (Grows-trans g g') (Keeps-trans k k') t term.within in
        here r (Grows-trans g g') (Keeps-trans k k') (λ w (o : Outcome Refusal (Unit {0})). Checks w (term_of x t) (term_of z wanted) o) o (subst (λ v. Checks (over z) v (term_of z wanted) o) same h)

    next_wanted : term_of z wanted ≡ under (drop (left - 1 + 1) (map (term_of x) ts)) (term_of x e.ty)
    next_wanted =
        let n : left - 1 + 1 ≡ left = omega (arith, some) in
        let a : map (term_of y) (take (length ts - left) (drop left ts)) ≡ map (term_of y) (drop left ts) = ap (map (term_of y)) (take_rest ts left) in
        let b : map (term_of y) (drop left ts) ≡ map (term_of x) (drop left ts) = items-stay x.pool.now y.pool.now (drop left ts) g.extends (all-drop (λ i. i < length x.pool.now.trees) left ts (terms-below x ts terms)) in
        let c : map (term_of x) (drop left ts) ≡ drop left (map (term_of x) ts) = sym (drop-map (term_of x) left ts) in
        let d : drop left (map (term_of x) ts) ≡ drop (left - 1 + 1) (map (term_of x) ts) = ap (λ j. drop j (map (term_of x) ts)) (sym n) in
        let l : e.ty < length x.pool.now.trees = all-at (λ (w : Entry ℕ). w.ty < length x.pool.now.trees) es (length ts - left) e within here_at in
        is ∙ (ap (λ vs. under vs (term_of y e.ty)) (a ∙ (b ∙ (c ∙ d))) ∙ ap (under (drop (left - 1 + 1) (map (term_of x) ts))) (term_kept r g k e.ty l))

    fits_step : (o : Outcome Refusal (Unit {0})) → Then (Checks (over x) (term_of x t) (term_of z wanted)) (λ d. FitsHere x es ts (left - 1)) o → FitsHere x es ts left o
    fits_step o h =
        let f : ℕ → Term = term_of x in
        let us : List Term = map f ts in
        let xs : List (Entry Term) = telescope_map f es in
        let m : ℕ = left - 1 in
        let n : m + 1 ≡ left = omega (arith, some) in
        let l : length us ≡ length ts = length-map ts f in
        let a : slice_get us m ≡ Some (f t) = slice_get-map f ts m ∙ ap (option_map f) at in
        let i : length us - (m + 1) ≡ length ts - left = omega (arith, n, l) in
        let b : slice_get xs (length us - (m + 1)) ≡ Some (entry_map f e) = ap (slice_get xs) i ∙ (slice_get-map (entry_map f) es (length ts - left) ∙ ap (option_map (entry_map f)) here_at) in
        subst (λ j. FitsHere x es ts j o) n
        (fits-next (signature_of x) x.limits.fuel x.limits.depth (context_of x) us xs m (f t) (entry_map f e) o a b (omega (arith, n, l, low))
        (subst (λ v. Then (Checks (over x) (f t) v) (λ d. FitsHere x es ts m) o) next_wanted h))

    pub fits-goes_on : (o : Outcome Refusal (Unit {0})) → Checks (over z) (term_of z t) (term_of z wanted) (Gives tt) → FitsHere x es ts (left - 1) o → FitsHere x es ts left o
    fits-goes_on o h q = fits_step o (goes_on tt (checks_here (Gives tt) h) q)

    pub fits-stops : (p : Pool) (d : KernelError) → RefusedBy p (λ q. Checks (over z) (term_of z t) (term_of z wanted) (Refuses q)) d → RefusedBy p (λ q. FitsHere x es ts left (Refuses q)) d
    fits-stops p d h = refused-weaker p (λ q. Checks (over z) (term_of z t) (term_of z wanted) (Refuses q)) (λ q. FitsHere x es ts left (Refuses q)) (λ q c. fits_step (Refuses q) (stops q (checks_here (Refuses q) c) refl)) d h
