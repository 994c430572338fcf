-- What is reached from a term by way of its parts, or of other terms.
use Rattle.std.specs.Prelude.{◌≡◌, ℕ, ◌<◌, ◌++◌, Bool, true, false, List, length}
use Rattle.std.specs.List.{AllByRecursion}
use Rattle.core_rules.specs.Term.{Term}
use Rattle.term_pool.specs.Pool.{Pool, tree}
use Rattle.index_unify.specs.Queue.{Item, Among}

-- a term under so many binders
abbrev pub Place : Type 0
Place = Term × ℕ

abbrev pub place_in : Pool → Item → Place
place_in p x = (tree p x.0, x.1)

-- a goal is reached from x by edges
pub data Reaches (E : Place → Place → Type 0) (G : Place → Type 0) : Place → Type 0 where
  here : {x : Place} → G x → Reaches E G x
  on : {x : Place} (y : Place) → E x y → Reaches E G y → Reaches E G x

-- what edges lead to from x is among the items ys
abbrev pub Leads : (Place → Place → Type 0) → Pool → List Item → Item → Type 0
Leads E p ys x = (z : Place) → E (place_in p x) z → (y : Item) × Among ys y × (place_in p y ≡ z)

-- y stands in the pool, and an edge leads to it from x
abbrev pub IsNext : (Place → Place → Type 0) → Pool → Item → Item → Type 0
IsNext E p x y = (y.0 < length p.trees) × E (place_in p x) (place_in p y)

-- ys have besides xs only what edges lead to from x, and all of that
pub record Opens (E : Place → Place → Type 0) (p : Pool) (x : Item) (xs ys : List Item) : Type 0 where
  pub more : List Item
  pub is : ys ≡ xs ++ more
  pub leads : Leads E p ys x
  pub only : AllByRecursion (IsNext E p x) more

-- a visit says whether x is a goal, and opens it where it is none
abbrev pub Visits : (Place → Place → Type 0) → (Place → Type 0) → Pool → Item → List Item → Bool → List Item → Type 0
Visits E G p x xs true ys = G (place_in p x)
Visits E G p x xs false ys = (G (place_in p x) → ⊥) × Opens E p x xs ys

-- whether A holds
abbrev pub Tells : Type 0 → Bool → Type 0
Tells A true = A
Tells A false = A → ⊥
