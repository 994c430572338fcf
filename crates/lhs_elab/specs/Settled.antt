-- What the patterns of a left side hold in the end, in code.
use Rattle.std.specs.Prelude.{◌≡◌, ℕ, ◌<◌, List, length, map}
use Rattle.std.specs.List.{AllByRecursion}
use Rattle.core_rules.specs.Term.{Term}
use Rattle.core_rules.specs.Signature.{CorePat, Dot, Pat, PatShape, Solved}
use Rattle.core_rules.specs.Mapped.{AllShape, dot_map, shape_map, solved_map}
use Rattle.term_pool.specs.Pool.{Extends, tree}
use Rattle.cover_rules.specs.LeftSide as C
use Rattle.cover_rules.specs.LeftSide.{shape_values}
use Rattle.lhs_rules.specs.Spots.{Left}
use Rattle.lhs_elab.specs.declared.settle.Settler.{Settler}
use Rattle.lhs_elab.specs.declared.settle.Held.{Held}
use Rattle.lhs_elab.specs.Lefts.{LeftBelow, left_in}

abbrev pub held_in : (ℕ → Term) → Held → C.Held
held_in f v = record { value = f v.value; ty = f v.ty }

abbrev pub HeldBelow : ℕ → Held → Type 0
HeldBelow n v = (v.value < n) × (v.ty < n)

abbrev pub shape_in : CorePat C.Held → PatShape C.Held
shape_in (Pat s o b) = s

abbrev pub SolvedBelow : ℕ → Solved ℕ → Type 0
SolvedBelow n v = (v.value < n) × (v.ty < n)

abbrev pub DotBelow : ℕ → Dot ℕ → Type 0
DotBelow n v = (v.value < n) × (v.ty < n)

abbrev pub left_of : Settler → Left
left_of x = left_in x.pool.now x.left.now

abbrev pub named_of : Settler → List (Solved Term)
named_of x = map (solved_map (tree x.pool.now)) x.named.now.items

abbrev pub dots_of : Settler → List (Dot Term)
dots_of x = map (dot_map (tree x.pool.now)) x.dots.now.items

pub record IsSettling (x : Settler) : Type 0 where
  pub left : LeftBelow (length x.pool.now.trees) x.left.now
  pub named : AllByRecursion (SolvedBelow (length x.pool.now.trees)) x.named.now.items
  pub dots : AllByRecursion (DotBelow (length x.pool.now.trees)) x.dots.now.items

-- the pool grew, and is the same pool
pub record Grows (x y : Settler) : Type 0 where
  pub same_reference : y.pool.ghost_name ≡ x.pool.ghost_name
  pub extends : Extends x.pool.now y.pool.now
  pub left : y.left.now ≡ x.left.now
  pub same_named : y.named.ghost_name ≡ x.named.ghost_name
  pub same_dots : y.dots.ghost_name ≡ x.dots.ghost_name

-- the shape s of ids is that of the rules, with its values
pub record IsSettled (x : Settler) (r : PatShape C.Held) (s : PatShape ℕ) : Type 0 where
  pub below : AllShape (λ t. t < length x.pool.now.trees) s
  pub is : shape_map (tree x.pool.now) s ≡ shape_values r
