-- Two lists whose items are related place by place, and what lists made of such lists are.
use Rattle.std.specs.Prelude.{◌≡◌, ℕ, ◌+◌, List, [], ◌∷◌, ◌++◌, length, map, take, drop, reverse, refl, zero, suc}
use Rattle.std.proofs.Common.{ap}
use mathlib.Core.List.{reverse_aux}
use Rattle.core_rules.specs.Term.{Term, Sort}
use Rattle.core_rules.specs.Substitution.{value_at}
use Rattle.core_rules.specs.Run.{spread}

pub data Pairwise {X : Type 0} (R : X → X → Type 0) : List X → List X → Type 0 where
  nil : Pairwise R [] []
  one : {x y : X} {xs ys : List X} → R x y → Pairwise R xs ys → Pairwise R (x ∷ xs) (y ∷ ys)

module _ {X : Type 0} {R : X → X → Type 0} where
  pub pairwise-length : {xs ys : List X} → Pairwise R xs ys → length xs ≡ length ys
  pairwise-length nil = refl
  pairwise-length (one a h) = ap suc (pairwise-length h)

  pub pairwise-append : {xs ys us vs : List X} → Pairwise R xs ys → Pairwise R us vs → Pairwise R (xs ++ us) (ys ++ vs)
  pairwise-append nil k = k
  pairwise-append (one a h) k = one a (pairwise-append h k)

  pub pairwise-take : (n : ℕ) {xs ys : List X} → Pairwise R xs ys → Pairwise R (take n xs) (take n ys)
  pairwise-take zero h = nil
  pairwise-take (suc n) nil = nil
  pairwise-take (suc n) (one a h) = one a (pairwise-take n h)

  pub pairwise-drop : (n : ℕ) {xs ys : List X} → Pairwise R xs ys → Pairwise R (drop n xs) (drop n ys)
  pairwise-drop zero h = h
  pairwise-drop (suc n) nil = nil
  pairwise-drop (suc n) (one a h) = pairwise-drop n h

  pub pairwise-reverse_onto : {xs ys us vs : List X} → Pairwise R xs ys → Pairwise R us vs → Pairwise R (reverse_aux xs us) (reverse_aux ys vs)
  pairwise-reverse_onto nil k = k
  pairwise-reverse_onto (one a h) k = pairwise-reverse_onto h (one a k)

  pub pairwise-reverse : {xs ys : List X} → Pairwise R xs ys → Pairwise R (reverse xs) (reverse ys)
  pairwise-reverse h = pairwise-reverse_onto h nil

-- environments
module _ {R : Term → Term → Type 0} where
  pub pairwise-spread : {us vs r q : List Term} (k : ℕ) → Pairwise R us vs → Pairwise R r q → Pairwise R (spread k us r) (spread k vs q)
  pairwise-spread k h m = pairwise-append (pairwise-append (pairwise-take k m) (pairwise-reverse h)) (pairwise-drop (k + 1) m)

  pub pairwise-value : {r q : List Term} (i : ℕ) → R (Sort 0) (Sort 0) → Pairwise R r q → R (value_at r i) (value_at q i)
  pairwise-value i e nil = e
  pairwise-value zero e (one a h) = a
  pairwise-value (suc i) e (one a h) = pairwise-value i e h

  pub pairwise-kept : {r q : List Term} (ks : List ℕ) → R (Sort 0) (Sort 0) → Pairwise R r q → Pairwise R (map (value_at r) ks) (map (value_at q) ks)
  pairwise-kept [] e h = nil
  pairwise-kept (k ∷ ks) e h = one (pairwise-value k e h) (pairwise-kept ks e h)
