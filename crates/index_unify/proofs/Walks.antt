-- How far a walk has come, and what it says at its end.
use Rattle.std.specs.Prelude.{◌≡◌, ℕ, ◌+◌, ◌<◌, ◌++◌, Bool, true, false, List, [], ◌∷◌, length, take, slice_get, Some, None, refl, zero, suc}
use Rattle.std.specs.List.{AllByRecursion}
use Rattle.std.proofs.Common.{sym, ap, subst, inl, inr, arith}
use Rattle.std.proofs.lemmas.Option.{same_Some}
use Rattle.el_base.proofs.Throughout.{all-append, all-push, all-weaker, all-at}
use Rattle.term_pool.specs.Pool.{Pool}
use Rattle.index_unify.specs.Queue.{Item, Among, Adds}
use Rattle.index_unify.specs.Walk.{Place, place_in, Reaches, here, on, Leads, IsNext, Opens, Visits, Tells}
use Rattle.index_unify.proofs.Queues.{among-left, all-among, added-has}

module _ (E : Place → Place → Type 0) (G : Place → Type 0) (p : Pool) (start : Item) where
  -- what is reached from x is reached from the start
  abbrev pub Stands : Item → Type 0
  Stands x = (x.0 < length p.trees) × (Reaches E G (place_in p x) → Reaches E G (place_in p start))

  -- x is no goal, and what edges lead to from it is among xs
  abbrev pub IsOpen : List Item → Item → Type 0
  IsOpen xs x = (G (place_in p x) → ⊥) × Leads E p xs x

  -- the items xs, of which the first n are done with
  pub record Walked (xs : List Item) (n : ℕ) : Type 0 where
    pub begins : Among xs start
    pub stand : AllByRecursion Stands xs
    pub opens : AllByRecursion (IsOpen xs) (take n xs)

  pub begun : (xs : List Item) → start.0 < length p.trees → Adds [] start xs → Walked xs 0
  begun xs l a = record { begins = added-has [] xs start a; stand = by a; opens = tt }
    where
      by : Adds [] start xs → AllByRecursion Stands xs
      by (inl h) = absurd h.1
      by (inr e) = subst (AllByRecursion Stands) (sym e) ((l, λ r. r), tt)

  leads-further : (xs more : List Item) (x : Item) → IsOpen xs x → IsOpen (xs ++ more) x
  leads-further xs more x h = (h.0, λ z e. let y = h.1 z e in (y.0, among-left xs more y.0 y.1, y.2))

  take-next : (n : ℕ) (xs more : List Item) (x : Item) → slice_get xs n ≡ Some x → take (suc n) (xs ++ more) ≡ take n xs ++ x ∷ []
  take-next n [] more x e = absurd cc
  take-next zero (y ∷ xs) more x e = ap (λ z. z ∷ []) (same_Some y x e)
  take-next (suc n) (y ∷ xs) more x e = ap (λ r. y ∷ r) (take-next n xs more x e)

  take-further : (n : ℕ) (xs more : List Item) (x : Item) → slice_get xs n ≡ Some x → take (n + 1) (xs ++ more) ≡ take n xs ++ x ∷ []
  take-further n xs more x e = let s : n + 1 ≡ suc n = omega arith in subst (λ k. take k (xs ++ more) ≡ take n xs ++ x ∷ []) (sym s) (take-next n xs more x e)

  pub opened : (xs ys : List Item) (n : ℕ) (x : Item) → Walked xs n → slice_get xs n ≡ Some x → (G (place_in p x) → ⊥) → Opens E p x xs ys → Walked ys (n + 1)
  opened xs ys n x w e h o = subst (λ zs. Walked zs (n + 1)) (sym o.is) (record {
    begins = among-left xs o.more start w.begins;
    stand = all-append Stands xs o.more w.stand (all-weaker (IsNext E p x) Stands (λ y h. (h.0, λ r. (all-at Stands xs n x w.stand e).1 (on (place_in p y) h.1 r))) o.more o.only);
    opens =
        subst (AllByRecursion (IsOpen (xs ++ o.more))) (sym (take-further n xs o.more x e))
        (all-push (IsOpen (xs ++ o.more)) (take n xs) x (all-weaker (IsOpen xs) (IsOpen (xs ++ o.more)) (leads-further xs o.more) (take n xs) w.opens)
        (h, subst (λ zs. Leads E p zs x) o.is o.leads));
  })

  pub found : (xs : List Item) (n : ℕ) (x : Item) → Walked xs n → slice_get xs n ≡ Some x → G (place_in p x) → Reaches E G (place_in p start)
  found xs n x w e g = (all-at Stands xs n x w.stand e).1 (here g)

  take-all : (n : ℕ) (xs : List Item) → slice_get xs n ≡ None → take n xs ≡ xs
  take-all zero [] e = refl
  take-all (suc n) [] e = refl
  take-all zero (x ∷ xs) e = absurd cc
  take-all (suc n) (x ∷ xs) e = ap (λ r. x ∷ r) (take-all n xs e)

  never : (xs : List Item) → AllByRecursion (IsOpen xs) xs → (z : Place) → Reaches E G z → (x : Item) → Among xs x → place_in p x ≡ z → ⊥
  never xs o z (here g) x a e = (all-among (IsOpen xs) xs x o a).0 (subst G (sym e) g)
  never xs o z (on y k r) x a e =
      let m = (all-among (IsOpen xs) xs x o a).1 y (subst (λ w. E w y) (sym e) k) in
      never xs o y r m.0 m.1 m.2

  pub ended : (xs : List Item) (n : ℕ) → Walked xs n → slice_get xs n ≡ None → Reaches E G (place_in p start) → ⊥
  ended xs n w e r = never xs (subst (AllByRecursion (IsOpen xs)) (take-all n xs e) w.opens) (place_in p start) r start w.begins refl

  pub visit-goal : (x : Item) (xs ys : List Item) (b : Bool) → Visits E G p x xs b ys → b ≡ true → G (place_in p x)
  visit-goal x xs ys true v e = v
  visit-goal x xs ys false v e = absurd cc

  pub visit-opens : (x : Item) (xs ys : List Item) (b : Bool) → Visits E G p x xs b ys → b ≡ false → (G (place_in p x) → ⊥) × Opens E p x xs ys
  visit-opens x xs ys false v e = v
  visit-opens x xs ys true v e = absurd cc

-- what is told of A is told of B, where one follows from the other
pub tells : {A B : Type 0} → (A → B) → (B → A) → (b : Bool) → Tells A b → Tells B b
tells f g true a = f a
tells f g false n = λ b. n (g b)

pub told-false : {A : Type 0} (b : Bool) → b ≡ false → Tells A b → A → ⊥
told-false true e t = absurd cc
told-false false e t = t

pub told-true : {A : Type 0} (b : Bool) → b ≡ true → Tells A b → A
told-true true e t = t
told-true false e t = absurd cc
