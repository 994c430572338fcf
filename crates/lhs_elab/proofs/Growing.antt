-- A left side as the pool grows.
use Rattle.std.proofs.Common.{◌≡◌, ◌<◌, ◌≤◌, ℕ, [], List, length, map, refl, ap, ap₂, arith}
use Rattle.std.specs.List.{AllByRecursion}
use Rattle.el_base.proofs.Throughout.{all-weaker, map-same}
use Rattle.core_rules.specs.Term.{Term}
use Rattle.core_rules.specs.Signature.{Entry, onto}
use Rattle.core_rules.specs.Mapped.{AllEntries, entry_map}
use Rattle.core_rules.specs.Elimination.{Elim, Arg}
use Rattle.term_pool.specs.Pool.{Pool, Extends, tree}
use Rattle.term_pool.specs.Growth.{Extends-length, Extends-tree}
use Rattle.weak_head.specs.Elims.{elim_in, Below}
use Rattle.weak_head.specs.declared.elim.Elim as E
use Rattle.weak_head.specs.declared.elim.Elim.TheVariants as V
use Rattle.index_unify.specs.Unified.{context_in}
use Rattle.lhs_rules.specs.Spots.{AtValue}
use Rattle.lhs_elab.specs.declared.left.Spot.{Spot as CodeSpot}
use Rattle.lhs_elab.specs.declared.left.Spot.TheVariants as S
use Rattle.lhs_elab.specs.declared.left.Taken.{Taken as CodeTaken}
use Rattle.lhs_elab.specs.declared.left.Left.{Left as CodeLeft}
use Rattle.lhs_elab.specs.Lefts.{spot_in, taken_in, left_in, SpotBelow, LeftBelow}

module _ (p q : Pool) (e : Extends p q) where
  -- ---- ids are below more

  pub entries-larger : (es : List (Entry ℕ)) → AllEntries (λ i. i < length p.trees) es → AllEntries (λ i. i < length q.trees) es
  entries-larger es a = all-weaker _ _ (λ (x : Entry ℕ) (l : x.ty < length p.trees). omega (arith, Extends-length e, l)) es a

  pub elim-larger : (x : E.Elim) → Below (length p.trees) x → Below (length q.trees) x
  elim-larger (V.Arg b u) l = omega (arith, Extends-length e, l)
  elim-larger (V.Field k) l = tt

  pub spine-larger : (xs : List CodeTaken) → AllByRecursion (λ (x : CodeTaken). Below (length p.trees) x.elim) xs → AllByRecursion (λ (x : CodeTaken). Below (length q.trees) x.elim) xs
  spine-larger xs a = all-weaker _ _ (λ (x : CodeTaken) (l : Below (length p.trees) x.elim). elim-larger x.elim l) xs a

  pub spot-larger : (m n : ℕ) → m ≤ n → (s : CodeSpot) → SpotBelow (length p.trees) m s → SpotBelow (length q.trees) n s
  spot-larger m n l (S.Var i) h = omega (arith, l, h)
  spot-larger m n l (S.Value v) h = (omega (arith, Extends-length e, h.0), omega (arith, Extends-length e, h.1))
  spot-larger m n l S.Con h = tt

  pub spots-larger : (m n : ℕ) → m ≤ n → (ss : List CodeSpot) → AllByRecursion (SpotBelow (length p.trees) m) ss → AllByRecursion (SpotBelow (length q.trees) n) ss
  spots-larger m n l ss a = all-weaker _ _ (spot-larger m n l) ss a

  pub left-larger : (l : CodeLeft) → LeftBelow (length p.trees) l → LeftBelow (length q.trees) l
  left-larger l a = record {
    context = entries-larger l.context.items a.context;
    spine = spine-larger l.spine.items a.spine;
    spots = spots-larger (length l.context.items) (length l.context.items) (omega arith) l.spots.items a.spots;
    ty = omega (arith, Extends-length e, a.ty);
  }

  -- ---- and stand for the same

  pub context-stays : (es : List (Entry ℕ)) → AllEntries (λ i. i < length p.trees) es → context_in q es ≡ context_in p es
  context-stays es a =
      ap (λ (ts : List (Entry Term)). onto ts [])
      (map-same (λ (x : Entry ℕ). x.ty < length p.trees) (entry_map (tree q)) (entry_map (tree p)) (λ (x : Entry ℕ) (l : x.ty < length p.trees). ap (λ (t : Term). record { name = x.name; flag = x.flag; ty = t }) (Extends-tree x.ty e l)) es a)

  pub elim-stays : (x : E.Elim) → Below (length p.trees) x → elim_in (tree q) x ≡ elim_in (tree p) x
  elim-stays (V.Arg b u) l = ap (λ (t : Term). Arg b t) (Extends-tree u e l)
  elim-stays (V.Field k) l = refl

  pub spine-stays : (xs : List CodeTaken) → AllByRecursion (λ (x : CodeTaken). Below (length p.trees) x.elim) xs → map (taken_in (tree q)) xs ≡ map (taken_in (tree p)) xs
  spine-stays xs a = map-same (λ (x : CodeTaken). Below (length p.trees) x.elim) (taken_in (tree q)) (taken_in (tree p))
      (λ (x : CodeTaken) (l : Below (length p.trees) x.elim). ap (λ (y : Elim). record { it = y; outer = x.outer }) (elim-stays x.elim l)) xs a

  pub spot-stays : (m : ℕ) (s : CodeSpot) → SpotBelow (length p.trees) m s → spot_in (tree q) s ≡ spot_in (tree p) s
  spot-stays m (S.Var i) l = refl
  spot-stays m (S.Value v) l = ap₂ (λ (t u : Term). AtValue (record { value = t; ty = u; outer = v.outer })) (Extends-tree v.value e l.0) (Extends-tree v.ty e l.1)
  spot-stays m S.Con l = refl

  pub spots-stay : (m : ℕ) (ss : List CodeSpot) → AllByRecursion (SpotBelow (length p.trees) m) ss → map (spot_in (tree q)) ss ≡ map (spot_in (tree p)) ss
  spots-stay m ss a = map-same (SpotBelow (length p.trees) m) (spot_in (tree q)) (spot_in (tree p)) (spot-stays m) ss a

  pub left-stays : (l : CodeLeft) → LeftBelow (length p.trees) l → left_in q l ≡ left_in p l
  left-stays l a = cc (context-stays l.context.items a.context, spine-stays l.spine.items a.spine, spots-stay (length l.context.items) l.spots.items a.spots, Extends-tree l.ty e a.ty)
