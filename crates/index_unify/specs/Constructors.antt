-- Constructors with their arguments, the equations of these, and the walk through them. Of arguments in code the first one is last.
use Rattle.std.specs.Prelude.{◌≡◌, ◌≢◌, ◌⊎◌, ◌++◌, ℕ, ◌<◌, Bool, true, false, length, List, [], ◌∷◌, map, reverse, Option, Some, None}
use Rattle.std.specs.List.{AllByRecursion}
use Rattle.core_rules.specs.Term.{Term, Var}
use Rattle.core_rules.specs.Elimination.{Elim, Arg, Field}
use Rattle.core_rules.specs.Unification as U
use Rattle.core_rules.specs.Unification.{con_spine, Pairs}
use Rattle.term_pool.specs.Pool.{Pool, tree}
use Rattle.index_unify.specs.declared.equation.Equation.{Equation}
use Rattle.index_unify.specs.declared.constructors.Argument.{Argument}
use Rattle.index_unify.specs.declared.constructors.ConForm.{ConForm}
use Rattle.index_unify.specs.Unified.{equation_in}
use Rattle.index_unify.specs.Queue.{Item, Among}
use Rattle.index_unify.specs.Walk.{Place}

abbrev pub argument_in : (ℕ → Term) → Argument → Elim
argument_in f a = Arg a.flag (f a.arg)

abbrev pub arguments_in : (ℕ → Term) → List Argument → List Elim
arguments_in f xs = map (argument_in f) (reverse xs)

abbrev pub con_form_in : (ℕ → Term) → Option ConForm → Option (ℕ × List Elim)
con_form_in f None = None
con_form_in f (Some c) = Some (c.con, arguments_in f c.args.items)

-- P holds of each argument
abbrev pub AllArguments : (ℕ → Type 0) → List Argument → Type 0
AllArguments P xs = AllByRecursion (λ a. P a.arg) xs

abbrev pub FormBelow : ℕ → Option ConForm → Type 0
FormBelow n None = Unit {0}
FormBelow n (Some c) = AllArguments (λ i. i < n) c.args.items

-- P holds of both sides of each equation
abbrev pub AllSides : (ℕ → Type 0) → List Equation → Type 0
AllSides P es = AllByRecursion (λ e. P e.left × P e.right) es

abbrev pub PairsHave : (ℕ → Type 0) → Option (List Equation) → Type 0
PairsHave P None = Unit {0}
PairsHave P (Some es) = AllSides P es

-- the equations of the arguments es and ds, where they have some
abbrev pub ArePairs : (ℕ → Term) → List Elim → List Elim → Option (List Equation) → Type 0
ArePairs f es ds None = (qs : List U.Equation) → Pairs es ds qs → ⊥
ArePairs f es ds (Some qs) = Pairs es ds (map (equation_in f) (reverse qs))

-- u is one of the arguments
abbrev pub HasArg : List Elim → Term → Type 0
HasArg [] u = ⊥
HasArg (Arg b t ∷ es) u = (t ≡ u) ⊎ HasArg es u
HasArg (Field k ∷ es) u = HasArg es u

-- from a constructor to its arguments
pub data ToArgument : Place → Place → Type 0 where
  to_argument : {t u : Term} {d : ℕ} (k : ℕ) (es : List Elim) → con_spine t [] ≡ Some (k, es) → HasArg es u → ToArgument (t, d) (u, 0)

-- variable x is an argument of it
pub data HasArgument (x : ℕ) : Place → Type 0 where
  has_argument : {t : Term} {d : ℕ} (k : ℕ) (es : List Elim) → con_spine t [] ≡ Some (k, es) → HasArg es (Var x) → HasArgument x (t, d)

-- ys have besides xs some of the arguments args, and all of the arguments ds, none of which is variable x
pub record Seen (p : Pool) (x : ℕ) (args ds : List Argument) (xs ys : List Item) : Type 0 where
  pub more : List Item
  pub is : ys ≡ xs ++ more
  pub only : AllByRecursion (λ y. (y.0 < length p.trees) × (y.1 ≡ 0) × HasArg (arguments_in (tree p) args) (tree p y.0)) more
  pub done : AllByRecursion (λ a. Among ys (a.arg, 0) × (tree p a.arg ≢ Var x)) ds

-- whether variable x is among the arguments; where it is not, ys have them besides xs
abbrev pub Scans : Pool → ℕ → List Argument → List Item → Bool → List Item → Type 0
Scans p x args xs true ys = HasArg (arguments_in (tree p) args) (Var x)
Scans p x args xs false ys = Seen p x args args xs ys
