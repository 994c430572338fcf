-- Parts in code as parts of the rules. Of a vector of parts the first part is the last item.
use Rattle.std.specs.Prelude.{ℕ, ◌<◌, List, [], ◌∷◌, map, reverse, Option, Some, None, option_map}
use Rattle.std.specs.List.{AllByRecursion}
use Rattle.std.specs.declared.vec.Vec.{Vec}
use Rattle.core_rules.specs.Term.{Term}
use Rattle.core_rules.specs.Bounded as B
use Rattle.core_rules.specs.Bounded.{Pair}
use Rattle.conversion.specs.declared.arguments.Part.{Part}

-- the name of the binder, if there is one
abbrev pub names : Option ℕ → List ℕ
names None = []
names (Some x) = x ∷ []

-- where f gives the trees of ids
abbrev pub part_in : (ℕ → Term) → Part → B.Part
part_in f x = Pair (names x.binds) (f x.left) (f x.right)

-- two terms under no binder
abbrev pub pair_in : (ℕ → Term) → ℕ × ℕ → B.Part
pair_in f r = Pair [] (f r.0) (f r.1)

abbrev pub all_in : (ℕ → Term) → List Part → List B.Part
all_in f xs = map (part_in f) (reverse xs)

abbrev pub parts_in : {A : Type 0} → (ℕ → Term) → Option (Vec Part A) → Option (List B.Part)
parts_in f o = option_map (λ v. all_in f v.items) o

-- its terms are ids below n
abbrev pub PartBelow : ℕ → Part → Type 0
PartBelow n x = (x.left < n) × (x.right < n)

abbrev pub PartsBelow : {A : Type 0} → ℕ → Option (Vec Part A) → Type 0
PartsBelow n None = Unit {0}
PartsBelow n (Some v) = AllByRecursion (PartBelow n) v.items
