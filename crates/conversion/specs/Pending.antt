-- The pairs that wait in a comparison, in what order, and how far it has come.
use Rattle.std.specs.Prelude.{◌≡◌, ◌≢◌, ◌⊎◌, ℕ, ◌+◌, ◌*◌, ◌<◌, ◌≤◌, ◌^◌, List, [], ◌∷◌, ◌++◌, length, map, take, Option, Some, None, zero, suc}
use Rattle.std.specs.List.{AllByRecursion}
use Rattle.core_rules.specs.Term.{Term}
use Rattle.core_rules.specs.Signature.{Signature}
use Rattle.core_rules.specs.Heads.{Solutions}
use Rattle.core_rules.specs.Bounded as B
use Rattle.core_rules.specs.Bounded.{below, ConvOf}
use Rattle.term_pool.specs.Pool.{Pool, tree}
use Rattle.conversion.specs.declared.arguments.Part.{Part}
use Rattle.conversion.specs.declared.outcome.Refusal.{Refusal}
use Rattle.conversion.specs.declared.pending.Work.{Work}
use Rattle.conversion.specs.declared.conv.Conv.{Conv}
use Rattle.conversion.specs.declared.conv.Conv.TheVariants as N
use Rattle.conversion.specs.declared.outcome.Refusal.TheVariants.{Differ, OutOfFuel, WaitsFor}
use Rattle.conversion.specs.Conv.{IsVerdict}
use Rattle.conversion.specs.Part.{names}
use Rattle.conversion.specs.Table.{Depths, yes_at}

-- c is the verdict of a refusal under these names
abbrev pub Decides : Refusal → List ℕ → Conv → Type 0
Decides (Differ t u) path c = c ≡ N.No t u path
Decides OutOfFuel path c = c ≡ N.OutOfFuel
Decides (WaitsFor m) path c = c ≡ N.Blocked m

-- a part as a pair that waits
abbrev pub work_of : ℕ → ℕ → Part → Work
work_of under depth x = record { depth = depth; under = under; binds = x.binds; left = x.left; right = x.right }

-- two terms to be compared to a depth, with the names around them
pub record Item : Type 0 where
  pub depth : ℕ
  pub path : List ℕ
  pub left : Term
  pub right : Term

abbrev pub item : Pool → List ℕ → Work → Item
item p path w = record { depth = w.depth; path = take w.under path ++ names w.binds; left = tree p w.left; right = tree p w.right }

abbrev pub items : Pool → List ℕ → List Work → List Item
items p path ws = map (item p path) ws

-- deeper pairs wait before others, and these stand under no more names
abbrev pub Ordered : List Work → Type 0
Ordered [] = Unit {0}
Ordered (w ∷ ws) = AllByRecursion (λ v. (w.depth ≤ v.depth) × (v.under ≤ w.under)) ws × Ordered ws

abbrev pub IsWork : Pool → ℕ → Work → Type 0
IsWork p n w = (w.left < length p.trees) × (w.right < length p.trees) × (w.under ≤ n)

-- a bound on the turns that a pair takes: its parts are fewer than a vector can hold
unfoldable pub turns : ℕ → ℕ
turns zero = 1
turns (suc d) = 1 + 2 ^ 64 * turns d

abbrev pub weigh : List Work → ℕ
weigh [] = 0
weigh (w ∷ ws) = turns w.depth + weigh ws

module _ (g : Signature Term) (s : Solutions) (fuel : ℕ) where
  abbrev pub IsYes : Item → Type 0
  IsYes i = ConvOf g s fuel i.depth i.left i.right B.Yes

  -- the first pair whose verdict is not yes decides
  abbrev pub InTurn : List Item → B.Verdict → Type 0
  InTurn [] q = q ≡ B.Yes
  InTurn (i ∷ is) q = (IsYes i × InTurn is q) ⊎ ((v : B.Verdict) × ConvOf g s fuel i.depth i.left i.right v × (v ≢ B.Yes) × (q ≡ below i.path v))

  -- t and u are yes at d if those of the pairs that wait are that are deeper
  pub record Follows (is : List Item) (d : ℕ) (t u : Term) : Type 0 where
    pub by : AllByRecursion (λ i. i.depth < d → IsYes i) is → ConvOf g s fuel d t u B.Yes

  pub record IsKept (p : Pool) (is : List Item) (i j d : ℕ) : Type 0 where
    pub left : i < length p.trees
    pub right : j < length p.trees
    pub follows : Follows is d (tree p i) (tree p j)

  pub record Going (p : Pool) (path : List ℕ) (m : Depths) (ws : List Work) : Type 0 where
    pub within : AllByRecursion (IsWork p (length path)) ws
    pub ordered : Ordered ws
    pub kept : (i j d : ℕ) → yes_at m i j ≡ Some d → IsKept p (items p path ws) i j d

  -- the verdict of what is left is that of what there was
  pub record Moves (p : Pool) (path : List ℕ) (ws : List Work) (q : Pool) (to : List ℕ) (n : Depths) (vs : List Work) : Type 0 where
    pub going : Going q to n vs
    pub leads : (v : B.Verdict) → InTurn (items q to vs) v → InTurn (items p path ws) v
    pub less : weigh vs < weigh ws

  abbrev pub Turn : Pool → List ℕ → List Work → Option Conv → Pool → List ℕ → Depths → List Work → Type 0
  Turn p path ws None q to n vs = Moves p path ws q to n vs
  Turn p path ws (Some c) q to n vs = IsVerdict (InTurn (items p path ws)) q c
