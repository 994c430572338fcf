-- What a split makes of eliminations and of spots.
use Rattle.std.proofs.Common.{◌≡◌, ◌<◌, ◌≤◌, ℕ, ◌+◌, ◌-◌, List, [], ◌∷◌, ◌++◌, length, map, refl, ap, arith}
use Rattle.std.specs.Prelude.{Bool, true, false, cond, ltb}
use Rattle.std.specs.List.{AllByRecursion}
use Rattle.core_rules.specs.Elimination.{Elim}
use Rattle.term_pool.specs.Pool.{Pool, Extends, tree}
use Rattle.weak_head.specs.Elims.{Below}
use Rattle.lhs_rules.specs.Spots.{Spot, Taken, moved}
use Rattle.lhs_elab.specs.declared.left.Spot.{Spot as CodeSpot}
use Rattle.lhs_elab.specs.declared.left.Taken.{Taken as CodeTaken}
use Rattle.lhs_elab.specs.Lefts.{SpotBelow, spot_in, taken_in}
use Rattle.lhs_elab.proofs.Growing.{elim-larger, elim-stays, spot-larger, spot-stays}
use Rattle.lhs_elab.proofs.Nexts.{all-next, map-next}

-- one elimination, or one spot, more
module _ (q r : Pool) (e : Extends q r) where
  takens-larger : (x : CodeTaken) → Below (length q.trees) x.elim → Below (length r.trees) x.elim
  takens-larger x l = elim-larger q r e x.elim l

  taken-same : (x : CodeTaken) → Below (length q.trees) x.elim → taken_in (tree r) x ≡ taken_in (tree q) x
  taken-same x l = ap (λ (y : Elim). record { it = y; outer = x.outer }) (elim-stays q r e x.elim l)

  module _ (made new : List CodeTaken) (v : CodeTaken) (n : new ≡ made ++ v ∷ []) (h : AllByRecursion (λ (x : CodeTaken). Below (length q.trees) x.elim) made) where
    pub takens-below : Below (length r.trees) v.elim → AllByRecursion (λ (x : CodeTaken). Below (length r.trees) x.elim) new
    takens-below = all-next (λ (x : CodeTaken). Below (length q.trees) x.elim) (λ (x : CodeTaken). Below (length r.trees) x.elim) (taken_in (tree q)) (taken_in (tree r)) takens-larger taken-same made new v n h

    pub takens-next : (x : Taken) (rest end : List Taken) → taken_in (tree r) v ≡ x → map (taken_in (tree q)) made ++ x ∷ rest ≡ end → map (taken_in (tree r)) new ++ rest ≡ end
    takens-next = map-next (λ (x : CodeTaken). Below (length q.trees) x.elim) (λ (x : CodeTaken). Below (length r.trees) x.elim) (taken_in (tree q)) (taken_in (tree r)) takens-larger taken-same made new v n h

  pub spot-same : (m : ℕ) (x : CodeSpot) → SpotBelow (length q.trees) m x → spot_in (tree r) x ≡ spot_in (tree q) x
  spot-same = spot-stays q r e

  module _ (m : ℕ) (made new : List CodeSpot) (v : CodeSpot) (n : new ≡ made ++ v ∷ []) (h : AllByRecursion (SpotBelow (length q.trees) m) made) where
    pub spots-below : SpotBelow (length r.trees) m v → AllByRecursion (SpotBelow (length r.trees) m) new
    spots-below = all-next (SpotBelow (length q.trees) m) (SpotBelow (length r.trees) m) (spot_in (tree q)) (spot_in (tree r)) (spot-larger q r e m m (omega arith)) (spot-same m) made new v n h

    pub spots-next : (x : Spot) (rest end : List Spot) → spot_in (tree r) v ≡ x → map (spot_in (tree q)) made ++ x ∷ rest ≡ end → map (spot_in (tree r)) new ++ rest ≡ end
    spots-next = map-next (SpotBelow (length q.trees) m) (SpotBelow (length r.trees) m) (spot_in (tree q)) (spot_in (tree r)) (spot-larger q r e m m (omega arith)) (spot-same m) made new v n h

-- ---- where a variable is in the context of the constructor

by-test : (b : Bool) (i k m n : ℕ) → (b ≡ true → i < k) → (b ≡ false → k ≤ i) → (i ≡ k → ⊥) → i < n → k < n → cond b i (i + m - 1) + 1 ≤ n + m - 1
by-test true i k m n f g d l o = let h = f refl in omega (arith, h, l, o)
by-test false i k m n f g d l o = let h = g refl in let j : k < i = differ (k) i h d in omega (arith, h, j, l, o)
  where
    differ : (k i : ℕ) → k ≤ i → (i ≡ k → ⊥) → k < i
    differ k i h d = grind arith

-- it is one of it, unless it is the one that is split
pub moved-within : (i k m n d : ℕ) → (i ≡ k → ⊥) → i < n → k < n → d + 1 ≡ n + m → moved k m i < d
moved-within i k m n d e l o h = let w = by-test (ltb i k) i k m n (λ t. grind (arith, t)) (λ t. grind (arith, t)) e l o in omega (arith, w, h)
