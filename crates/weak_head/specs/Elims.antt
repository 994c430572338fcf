-- What eliminations and environments in code are to the rules.
use Rattle.std.specs.Prelude.{◌≡◌, ℕ, ◌<◌, List, [], ◌∷◌, map, reverse, take, slice_get, Option, Some, None}
use Rattle.std.specs.List.{AllByRecursion}
use Rattle.core_rules.specs.Term.{Term}
use Rattle.core_rules.specs.Elimination.{Elim, Arg, Field}
use Rattle.weak_head.specs.declared.elim.Elim as E
use Rattle.weak_head.specs.declared.elim.Elim.TheVariants as V

-- where f gives the trees of ids
abbrev pub elim_in : (ℕ → Term) → E.Elim → Elim
elim_in f (V.Arg b u) = Arg b (f u)
elim_in f (V.Field k) = Field k

-- the last one comes first
abbrev pub spine_in : (ℕ → Term) → List E.Elim → List Elim
spine_in f xs = map (elim_in f) (reverse xs)

-- the last value is that of variable 0
abbrev pub env_in : (ℕ → Term) → List ℕ → List Term
env_in f xs = map f (reverse xs)

-- its ids are below n
abbrev pub Below : ℕ → E.Elim → Type 0
Below n (V.Arg b u) = u < n
Below n (V.Field k) = Unit {0}

abbrev pub AllBelow : ℕ → List E.Elim → Type 0
AllBelow n xs = AllByRecursion (Below n) xs

abbrev pub IsArg : Elim → Type 0
IsArg (Arg b u) = Unit {0}
IsArg (Field k) = ⊥

abbrev pub AreArgs : List Elim → Type 0
AreArgs es = AllByRecursion IsArg es

abbrev pub arg_of : Elim → Option Term
arg_of (Arg b u) = Some u
arg_of (Field k) = None

-- the terms of the arguments
abbrev pub args_of : List Elim → List Term
args_of [] = []
args_of (Arg b u ∷ es) = u ∷ args_of es
args_of (Field k ∷ es) = args_of es

-- field k is the first, after n arguments
pub record IsFieldAt (es : List Elim) (n k : ℕ) : Type 0 where
  pub is : slice_get es n ≡ Some (Field k)
  pub before : AreArgs (take n es)

abbrev pub IsFirstField : List Elim → Option (ℕ × ℕ) → Type 0
IsFirstField es None = AreArgs es
IsFirstField es (Some r) = IsFieldAt es r.0 r.1
