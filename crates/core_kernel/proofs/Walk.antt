-- A walk along the arguments of a function, whose type is kept under those that were taken.
use Rattle.std.proofs.Common.{◌≡◌, ◌<◌, ◌≤◌, ◌+◌, ◌++◌, ℕ, suc, refl, sym, ap, subst, ◌∙◌, arith, List, [], ◌∷◌, length, map, take}
use Rattle.std.specs.Prelude.{slice_get, Some}
use Rattle.std.specs.List.{AllByRecursion}
use Rattle.std.proofs.lemmas.List.{length-append}
use Rattle.el_base.proofs.Throughout.{all-at}
use Rattle.core_rules.specs.Term.{Term, App, size}
use Rattle.core_rules.specs.Substitution.{over as traversed}
use Rattle.term_pool.specs.Pool.{Pool, tree}
use Rattle.term_pool.specs.Growth.{Extends-tree, Extends-trans}
use Rattle.term_pool.specs.Placed.{filled, filled_var}
use Rattle.kernel_rules.specs.Outcome.{Outcome, Gives, Refuses}
use Rattle.kernel_rules.specs.Refusals.{Refusal}
use Rattle.core_kernel.specs.declared.checker.Checker.{Checker}
use Rattle.core_kernel.specs.declared.error.KernelError.{KernelError}
use Rattle.core_kernel.specs.declared.spine.Argument.{Argument}
use Rattle.core_kernel.specs.Answers.{RefusedBy}
use Rattle.core_kernel.specs.Checker.{Over, Infers, Checks, ShowsParts, IsReady, IsTerm, Grows, Keeps, over, term_of}
use Rattle.core_kernel.specs.Spine.{unwound, filled_in}
use Rattle.core_kernel.proofs.Checking.{here, term_kept, Grows-trans, Keeps-trans, app-no_parts, app-no_check, refused-weaker}
use Rattle.core_kernel.proofs.Slots.{slot, slot_none, slot_next}
use Rattle.core_kernel.proofs.Filling.{filled_none}
use Rattle.core_kernel.proofs.Spines.{most, unwound-push, next-typed, refused-unwound}

pub record IsReading (o : Over) (f : ℕ → Term) (whole : Term) (left : List Argument) (a : Term) : Type 0 where
  pub function : Term
  pub is : whole ≡ unwound f function left
  pub typed : Infers o function (Gives a)

-- the step of a reading, over what is read at first
module _ (o : Over) (f : ℕ → Term) (whole : Term) (xs : List Argument) (a : Argument) (A : Term) (i : IsReading o f whole (xs ++ a ∷ []) A) where
  pub whole_next : whole ≡ unwound f (App a.flag i.function (f a.term)) xs
  whole_next = i.is ∙ unwound-push f i.function xs a

  pub reading_next : (s v : Term) (r : List Term) → ShowsParts o a.flag A (Gives (s, traversed (filled_var r) 1 v)) → Checks o (f a.term) s (Gives tt) → IsReading o f whole xs (filled (f a.term ∷ r) v)
  reading_next s v r parts checked = record { function = App a.flag i.function (f a.term); is = whole_next; typed = next-typed o a.flag i.function (f a.term) A s v r i.typed parts checked }

  pub refused_next : (p : Pool) (e : KernelError) → RefusedBy p (λ r. Infers o (App a.flag i.function (f a.term)) (Refuses r)) e → RefusedBy p (λ r. Infers o whole (Refuses r)) e
  refused_next p e h = subst (λ w. RefusedBy p (λ r. Infers o w (Refuses r)) e) (sym whole_next) (refused-unwound o f (App a.flag i.function (f a.term)) xs p e h)

-- ---- the last argument, as it is popped

module _ (items xs : List Argument) (a : Argument) (popped : items ≡ xs ++ a ∷ []) where
  pub popped-count : length items ≡ length xs + 1
  popped-count = ap length popped ∙ length-append xs (a ∷ [])

  pub reading_last : (o : Over) (f : ℕ → Term) (whole : Term) (p : Pool) (ts : List ℕ) (end ty : ℕ) → IsReading o f whole items (filled_in p (slot (length items) end ts) ty) → IsReading o f whole (xs ++ a ∷ []) (filled_in p (slot (length xs + 1) end ts) ty)
  reading_last o f whole p ts end ty i =
      subst (λ (k : ℕ). IsReading o f whole (xs ++ a ∷ []) (filled_in p (slot k end ts) ty)) popped-count
      (subst (λ (ys : List Argument). IsReading o f whole ys (filled_in p (slot (length items) end ts) ty)) popped i)

  pub place_popped : (ts : List ℕ) → map (λ (b : Argument). b.term) items ≡ take (length items) ts → map (λ (b : Argument). b.term) (xs ++ a ∷ []) ≡ take (length xs + 1) ts
  place_popped ts e = ap (map (λ (b : Argument). b.term)) (sym popped) ∙ (e ∙ ap (λ k. take k ts) popped-count)

  pub all_popped : (P : Argument → Type 0) → AllByRecursion P items → AllByRecursion P xs × P a
  all_popped P h = apart xs (subst (AllByRecursion P) popped h)
    where
      apart : (ys : List Argument) → AllByRecursion P (ys ++ a ∷ []) → AllByRecursion P ys × P a
      apart [] h = (tt, h.0)
      apart (y ∷ ys) h = let r = apart ys h.1 in ((h.0, r.0), r.1)

  pub most_popped : (f : ℕ → Term) → (size (f a.term) ≤ most f items) × (most f xs ≤ most f items)
  most_popped f = let r = apart xs in let e = ap (most f) popped in (omega (arith, r.0, e), omega (arith, r.1, e))
    where
      apart : (ys : List Argument) → (size (f a.term) ≤ most f (ys ++ a ∷ [])) × (most f ys ≤ most f (ys ++ a ∷ []))
      apart [] = (omega arith, omega arith)
      apart (y ∷ ys) = let r = apart ys in (omega (arith, r.0), omega (arith, r.1))

-- before any argument is taken
pub reading_start : (o : Over) (f : ℕ → Term) (p : Pool) (h : Term) (xs : List Argument) (ts : List ℕ) (end ty : ℕ) → end ≡ length xs → Infers o h (Gives (tree p ty)) → IsReading o f (unwound f h xs) xs (filled_in p (slot (length xs) end ts) ty)
reading_start o f p h xs ts end ty n d =
    let e : slot (length xs) end ts ≡ [] = ap (λ k. slot (length xs) k ts) n ∙ slot_none (length xs) ts in
    let t : filled_in p (slot (length xs) end ts) ty ≡ tree p ty = ap (λ (us : List ℕ). filled_in p us ty) e ∙ filled_none (tree p ty) in
    record { function = h; is = refl; typed = subst (λ (a : Term). Infers o h (Gives a)) (sym t) d }

-- after the last one
pub reading_end : (o : Over) (f : ℕ → Term) (whole A : Term) → IsReading o f whole [] A → Infers o whole (Gives A)
reading_end o f whole A i = subst (λ (t : Term). Infers o t (Gives A)) (sym i.is) i.typed

pub all_terms : (n : ℕ) (xs : List Argument) → AllByRecursion (λ (a : Argument). a.term < n) xs → AllByRecursion (λ i. i < n) (map (λ (a : Argument). a.term) xs)
all_terms n [] h = tt
all_terms n (a ∷ xs) h = (h.0, all_terms n xs h.1)

pub terms_within : (x : Checker) (xs : List Argument) → AllByRecursion (λ (a : Argument). IsTerm x a.term) xs → AllByRecursion (λ (a : Argument). a.term < length x.pool.now.trees) xs
terms_within x [] h = tt
terms_within x (a ∷ xs) h = (h.0.within, terms_within x xs h.1)

pub place_start : (xs : List Argument) (ts : List ℕ) → ts ≡ map (λ (a : Argument). a.term) xs → map (λ (a : Argument). a.term) xs ≡ take (length xs) ts
place_start xs ts e = first_ones xs ∙ ap (take (length xs)) (sym e)
  where
    first_ones : (ys : List Argument) → map (λ (a : Argument). a.term) ys ≡ take (length ys) (map (λ (a : Argument). a.term) ys)
    first_ones [] = refl
    first_ones (a ∷ ys) = ap (λ zs. a.term ∷ zs) (first_ones ys)

-- the last argument, in the list of all their terms
pub place_last : (xs : List Argument) (a : Argument) (ts : List ℕ) → map (λ (b : Argument). b.term) (xs ++ a ∷ []) ≡ take (length xs + 1) ts → slice_get ts (length xs) ≡ Some a.term
place_last [] a [] e = absurd cc
place_last [] a (t ∷ ts) e = let one : 0 + 1 ≡ suc 0 = omega arith in let f : a.term ∷ [] ≡ t ∷ [] = e ∙ ap (λ k. take k (t ∷ ts)) one in ap Some (cc f)
place_last (x ∷ xs) a [] e = let one : length (x ∷ xs) + 1 ≡ suc (length xs + 1) = omega arith in let f : map (λ (b : Argument). b.term) (x ∷ xs ++ a ∷ []) ≡ take (suc (length xs + 1)) [] = e ∙ ap (λ k. take k []) one in absurd (cc f)
place_last (x ∷ xs) a (t ∷ ts) e =
    let one : length (x ∷ xs) + 1 ≡ suc (length xs + 1) = omega arith in
    let f : x.term ∷ map (λ (b : Argument). b.term) (xs ++ a ∷ []) ≡ t ∷ take (length xs + 1) ts = e ∙ ap (λ k. take k (t ∷ ts)) one in
    place_last xs a ts (cc f)

pub place_rest : (xs : List Argument) (a : Argument) (ts : List ℕ) → map (λ (b : Argument). b.term) (xs ++ a ∷ []) ≡ take (length xs + 1) ts → map (λ (b : Argument). b.term) xs ≡ take (length xs) ts
place_rest [] a ts e = refl
place_rest (x ∷ xs) a [] e = let one : length (x ∷ xs) + 1 ≡ suc (length xs + 1) = omega arith in let f : map (λ (b : Argument). b.term) (x ∷ xs ++ a ∷ []) ≡ take (suc (length xs + 1)) [] = e ∙ ap (λ k. take k []) one in absurd (cc f)
place_rest (x ∷ xs) a (t ∷ ts) e =
    let one : length (x ∷ xs) + 1 ≡ suc (length xs + 1) = omega arith in
    let f : x.term ∷ map (λ (b : Argument). b.term) (xs ++ a ∷ []) ≡ t ∷ take (length xs + 1) ts = e ∙ ap (λ k. take k (t ∷ ts)) one in
    let h : x.term ≡ t = cc f in
    let k : map (λ (b : Argument). b.term) (xs ++ a ∷ []) ≡ take (length xs + 1) ts = cc f in
    ap (λ y. y ∷ map (λ (b : Argument). b.term) xs) h ∙ ap (λ ys. t ∷ ys) (place_rest xs a ts k)

-- one step of the walk: y is the checker before it, q after the parts of the function's type, z after the argument
module _ {x y q : Checker} (r : IsReady x) (g : Grows x y) (k : Keeps x y) (g' : Grows y q) (k' : Keeps y q) where
  module _ (whole : Term) (xs : List Argument) (a : Argument) (A : Term) (i : IsReading (over x) (term_of x) whole (xs ++ a ∷ []) A) where
    pub walk-no_function : (p : Pool) (e : KernelError) → RefusedBy p (λ r. ShowsParts (over y) a.flag A (Refuses r)) e → RefusedBy p (λ r. Infers (over x) whole (Refuses r)) e
    walk-no_function p e h =
        refused_next (over x) (term_of x) whole xs a A i p e
        (app-no_parts (over x) a.flag i.function (term_of x a.term) A i.typed p e (here r g k (λ o (d : KernelError). RefusedBy p (λ r. ShowsParts o a.flag A (Refuses r)) d) e h))

    module _ (within : a.term < length x.pool.now.trees) (dom : ℕ) (v : Term) (parts : ShowsParts (over y) a.flag A (Gives (tree q.pool.now dom, v))) where
      parts_here : ShowsParts (over x) a.flag A (Gives (tree q.pool.now dom, v))
      parts_here = here r g k (λ o (w : Term × Term). ShowsParts o a.flag A (Gives w)) (tree q.pool.now dom, v) parts

      same : term_of q a.term ≡ term_of x a.term
      same = term_kept r (Grows-trans g g') (Keeps-trans k k') a.term within

      checks_here : (o : Outcome Refusal (Unit {0})) → Checks (over q) (term_of q a.term) (term_of q dom) o → Checks (over x) (term_of x a.term) (tree q.pool.now dom) o
      checks_here o h = here r (Grows-trans g g') (Keeps-trans k k') (λ w (o : Outcome Refusal (Unit {0})). Checks w (term_of x a.term) (tree q.pool.now dom) o) o (subst (λ t. Checks (over q) t (tree q.pool.now dom) o) same h)

      pub walk-no_argument : (p : Pool) (e : KernelError) → RefusedBy p (λ r. Checks (over q) (term_of q a.term) (term_of q dom) (Refuses r)) e → RefusedBy p (λ r. Infers (over x) whole (Refuses r)) e
      walk-no_argument p e h =
          refused_next (over x) (term_of x) whole xs a A i p e
          (app-no_check (over x) a.flag i.function (term_of x a.term) A i.typed (tree q.pool.now dom, v) parts_here p e
          (refused-weaker p (λ r. Checks (over q) (term_of q a.term) (term_of q dom) (Refuses r)) (λ r. Checks (over x) (term_of x a.term) (tree q.pool.now dom) (Refuses r)) (λ r c. checks_here (Refuses r) c) e h))

  module _ (z : Checker) (g'' : Grows q z) (whole : Term) (xs : List Argument) (a : Argument) (ts : List ℕ) (end ty : ℕ) (i : IsReading (over x) (term_of x) whole (xs ++ a ∷ []) (filled_in y.pool.now (slot (length xs + 1) end ts) ty)) where
    pub walked : (dom cod used : ℕ) → AllByRecursion (λ i. i < length x.pool.now.trees) ts → slice_get ts (length xs) ≡ Some a.term → used ≤ length (slot (length xs + 1) end ts) → cod < length q.pool.now.trees
        → ShowsParts (over y) a.flag (filled_in y.pool.now (slot (length xs + 1) end ts) ty) (Gives (tree q.pool.now dom, traversed (filled_var (map (tree q.pool.now) (take used (slot (length xs + 1) end ts)))) 1 (tree q.pool.now cod)))
        → Checks (over q) (term_of q a.term) (term_of q dom) (Gives tt)
        → IsReading (over x) (term_of x) whole xs (filled_in z.pool.now (slot (length xs) (length xs + 1 + used) ts) cod)
    walked dom cod used all at le within parts checked =
        let A : Term = filled_in y.pool.now (slot (length xs + 1) end ts) ty in
        let us : List Term = map (tree q.pool.now) (take used (slot (length xs + 1) end ts)) in
        let v : Term = traversed (filled_var us) 1 (tree q.pool.now cod) in
        let low : a.term < length x.pool.now.trees = all-at (λ i. i < length x.pool.now.trees) ts (length xs) a.term all at in
        let p : ShowsParts (over x) a.flag A (Gives (tree q.pool.now dom, v)) = parts_here whole xs a A i low dom v parts in
        let c : Checks (over x) (term_of x a.term) (tree q.pool.now dom) (Gives tt) = checks_here whole xs a A i low dom v parts (Gives tt) checked in
        let e : map (tree z.pool.now) (slot (length xs) (length xs + 1 + used) ts) ≡ term_of x a.term ∷ us =
        slot_next x.pool.now q.pool.now z.pool.now ts (length xs) end used a.term (Extends-trans g.extends g'.extends) g''.extends all at le in
        let w : tree z.pool.now cod ≡ tree q.pool.now cod = Extends-tree cod g''.extends within in
        let n : IsReading (over x) (term_of x) whole xs (filled (term_of x a.term ∷ us) (tree q.pool.now cod)) = reading_next (over x) (term_of x) whole xs a A i (tree q.pool.now dom) (tree q.pool.now cod) us p c in
        subst (λ vs. IsReading (over x) (term_of x) whole xs (filled vs (tree z.pool.now cod))) (sym e) (subst (λ t. IsReading (over x) (term_of x) whole xs (filled (term_of x a.term ∷ us) t)) (sym w) n)
