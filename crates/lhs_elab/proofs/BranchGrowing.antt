-- The branch of a constructor as the pool grows, and spot after spot.
use Rattle.std.proofs.Common.{◌≡◌, ◌<◌, ℕ, suc, ◌+◌, ◌-◌, List, [], ◌∷◌, ◌++◌, length, map, ap, ap₂, sym, subst, ◌∙◌, append_assoc, arith}
use Rattle.std.specs.List.{AllByRecursion}
use Rattle.std.proofs.lemmas.List.{map-append}
use Rattle.el_base.proofs.Throughout.{all-push, map-same}
use Rattle.core_rules.specs.Term.{Term}
use Rattle.core_rules.specs.Signature.{Entry, Telescope, Branch, Context}
use Rattle.core_rules.specs.Mapped.{branch_map, entry_map, telescope_map}
use Rattle.term_pool.specs.Pool.{Pool, Extends, tree}
use Rattle.term_pool.specs.Growth.{Extends-tree}
use Rattle.term_pool.specs.Placed.{items-stay}
use Rattle.declared_types.proofs.Grown.{all-grown}
use Rattle.index_unify.specs.Unified.{context_in}
use Rattle.lhs_rules.specs.Spots.{Spot, branch_spot, branch_spots}
use Rattle.lhs_elab.specs.declared.left.Spot.{Spot as CodeSpot}
use Rattle.lhs_elab.specs.Lefts.{spot_in, SpotBelow}
use Rattle.lhs_elab.specs.Branches.{IsBranch}
use Rattle.lhs_elab.proofs.Growing.{entries-larger, context-stays, spots-larger, spots-stay}

module _ (p q : Pool) (e : Extends p q) where
  pub branch-larger : (m : ℕ) (b : Branch ℕ) → IsBranch (length p.trees) m b → IsBranch (length q.trees) m b
  branch-larger m b i = record { context = entries-larger p q e b.context i.context; values = all-grown p q b.values e i.values; keep = i.keep; count = i.count }

  pub branch-stays : (m : ℕ) (b : Branch ℕ) → IsBranch (length p.trees) m b → branch_map (tree q) b ≡ branch_map (tree p) b
  branch-stays m b i =
      let es : telescope_map (tree q) b.context ≡ telescope_map (tree p) b.context =
      map-same (λ (x : Entry ℕ). x.ty < length p.trees) (entry_map (tree q)) (entry_map (tree p)) (λ (x : Entry ℕ) (l : x.ty < length p.trees). ap (λ (t : Term). record { name = x.name; flag = x.flag; ty = t }) (Extends-tree x.ty e l)) b.context i.context in
      ap₂ (λ (es : Telescope Term) (vs : List Term). record { context = es; values = vs; keep = b.keep }) es (items-stay p q b.values e i.values)

-- one spot more, of a pool q that is r now
module _ (p q r : Pool) (e : Extends p q) (f : Extends q r) (es : List (Entry ℕ)) (b : Branch ℕ) (a : AllByRecursion (λ (x : Entry ℕ). x.ty < length p.trees) es) (i : IsBranch (length p.trees) (length es) b)
    (made new : List CodeSpot) (s : CodeSpot) (n : new ≡ made ++ s ∷ []) (h : AllByRecursion (SpotBelow (length q.trees) (length b.context)) made) where
  pub spots-below-next : SpotBelow (length r.trees) (length b.context) s → AllByRecursion (SpotBelow (length r.trees) (length b.context)) new
  spots-below-next l =
      subst (AllByRecursion (SpotBelow (length r.trees) (length b.context))) (sym n) (all-push (SpotBelow (length r.trees) (length b.context)) made s (spots-larger q r f (length b.context) (length b.context) (omega arith) made h) l)

  pub spots-next : (at next left : ℕ) (end : List Spot) → next ≡ at + 1 → left ≡ suc (left - 1) → spot_in (tree r) s ≡ branch_spot (context_in q es) (branch_map (tree q) b) at
      → map (spot_in (tree q)) made ++ branch_spots (context_in p es) (branch_map (tree p) b) at left ≡ end
      → map (spot_in (tree r)) new ++ branch_spots (context_in p es) (branch_map (tree p) b) next (left - 1) ≡ end
  spots-next at next left end m k is g =
      let C = context_in p es in
      let B = branch_map (tree p) b in
      let one : spot_in (tree r) s ≡ branch_spot C B at = is ∙ ap₂ (λ (c : Context Term) (d : Branch Term). branch_spot c d at) (context-stays p q e es a) (branch-stays p q e (length es) b i) in
      let all : map (spot_in (tree r)) new ≡ map (spot_in (tree q)) made ++ branch_spot C B at ∷ [] =
      ap (map (spot_in (tree r))) n ∙ map-append (spot_in (tree r)) made (s ∷ [])
      ∙ ap₂ (λ (ys : List Spot) (y : Spot). ys ++ y ∷ []) (spots-stay q r f (length b.context) made h) one in
      ap₂ (λ (ys : List Spot) (n : ℕ). ys ++ branch_spots C B n (left - 1)) all m
      ∙ (append_assoc (map (spot_in (tree q)) made) (branch_spot C B at ∷ []) (branch_spots C B (at + 1) (left - 1))
      ∙ (ap (λ (n : ℕ). map (spot_in (tree q)) made ++ branch_spots C B at n) (sym k) ∙ g))
