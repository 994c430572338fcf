-- The left side so far in code, as the rules see it.
use Rattle.std.specs.Prelude.{ℕ, ◌<◌, length, map}
use Rattle.std.specs.List.{AllByRecursion}
use Rattle.core_rules.specs.Term.{Term}
use Rattle.core_rules.specs.Mapped.{AllEntries}
use Rattle.term_pool.specs.Pool.{Pool, tree}
use Rattle.index_unify.specs.Unified.{context_in}
use Rattle.weak_head.specs.Elims.{elim_in, Below}
use Rattle.lhs_rules.specs.Spots.{Placed, Spot, AtVar, AtValue, AtCon, Taken, Left}
use Rattle.lhs_elab.specs.declared.left.Placed.{Placed as CodePlaced}
use Rattle.lhs_elab.specs.declared.left.Spot.{Spot as CodeSpot}
use Rattle.lhs_elab.specs.declared.left.Spot.TheVariants as S
use Rattle.lhs_elab.specs.declared.left.Taken.{Taken as CodeTaken}
use Rattle.lhs_elab.specs.declared.left.Left.{Left as CodeLeft}

-- where f gives the trees of ids
module _ (f : ℕ → Term) where
  abbrev pub placed_in : CodePlaced → Placed
  placed_in v = record { value = f v.value; ty = f v.ty; outer = v.outer }

  abbrev pub spot_in : CodeSpot → Spot
  spot_in (S.Var i) = AtVar i
  spot_in (S.Value v) = AtValue (placed_in v)
  spot_in S.Con = AtCon

  abbrev pub taken_in : CodeTaken → Taken
  taken_in e = record { it = elim_in f e.elim; outer = e.outer }

abbrev pub left_in : Pool → CodeLeft → Left
left_in p l = record {
  context = context_in p l.context.items;
  spine = map (taken_in (tree p)) l.spine.items;
  spots = map (spot_in (tree p)) l.spots.items;
  pats = l.pats.items;
  ty = tree p l.ty;
  inserted = l.inserted;
}

-- its ids are below n, and its variable is one of m entries
abbrev pub SpotBelow : ℕ → ℕ → CodeSpot → Type 0
SpotBelow n m (S.Var i) = i < m
SpotBelow n m (S.Value v) = (v.value < n) × (v.ty < n)
SpotBelow n m S.Con = Unit {0}

pub record LeftBelow (n : ℕ) (l : CodeLeft) : Type 0 where
  pub context : AllEntries (λ i. i < n) l.context.items
  pub spine : AllByRecursion (λ (e : CodeTaken). Below n e.elim) l.spine.items
  pub spots : AllByRecursion (SpotBelow n (length l.context.items)) l.spots.items
  pub ty : l.ty < n
