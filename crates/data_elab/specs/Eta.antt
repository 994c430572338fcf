-- Terms in which a family is looked for: each once, in the order in which they come.
use Rattle.std.specs.Prelude.{◌≡◌, ℕ, ◌<◌, ◌⊎◌, ◌++◌, Bool, true, false, List, [], ◌∷◌, length, map}
use Rattle.std.specs.List.{AllByRecursion}
use Rattle.core_rules.specs.Signature.{Entry}
use Rattle.term_pool.specs.Pool.{Pool, tree}
use Rattle.data_rules.specs.Families.{names_family}

-- ---- ids, each once

-- t is among the ids
abbrev pub Among : List ℕ → ℕ → Type 0
Among [] t = ⊥
Among (u ∷ ts) t = (u ≡ t) ⊎ Among ts t

-- us are the ids ts and t, which is put after them where it is not among them
abbrev pub Adds : List ℕ → ℕ → List ℕ → Type 0
Adds ts t us = ((us ≡ ts) × Among ts t) ⊎ (us ≡ ts ++ t ∷ [])

-- the ids of the types of entries
abbrev pub types_of : List (Entry ℕ) → List ℕ
types_of es = map (λ (e : Entry ℕ). e.ty) es

-- the ids ts are these, each once
pub record AreTypes (es : List (Entry ℕ)) (ts : List ℕ) : Type 0 where
  pub only : AllByRecursion (Among (types_of es)) ts
  pub all : AllByRecursion (Among ts) (types_of es)

-- ---- a look at a term

-- u is an id of the pool, and family d stands in id t where it stands in id u
abbrev pub IsPart : Pool → ℕ → ℕ → ℕ → Type 0
IsPart p d t u = (u < length p.trees) × (names_family d (tree p u) ≡ true → names_family d (tree p t) ≡ true)

-- among the ids ts there is one before t in which family d stands
pub record HasPart (p : Pool) (d : ℕ) (ts : List ℕ) (t : ℕ) : Type 0 where
  pub part : ℕ
  pub among : Among ts part
  pub before : part < t
  pub stands : names_family d (tree p part) ≡ true

-- us are the ids ts and parts of id t, one in which family d stands, if it stands in id t
pub record Opens (p : Pool) (d t : ℕ) (ts us : List ℕ) : Type 0 where
  pub more : List ℕ
  pub is : us ≡ ts ++ more
  pub parts : AllByRecursion (IsPart p d t) more
  pub part : names_family d (tree p t) ≡ true → HasPart p d us t

-- family d is id t, or us are the ids ts and the parts of id t
abbrev pub Looks : Pool → ℕ → ℕ → List ℕ → Bool → List ℕ → Type 0
Looks p d t ts true us = names_family d (tree p t) ≡ true
Looks p d t ts false us = Opens p d t ts us
