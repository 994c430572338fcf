-- Unification of indices: its steps, what they solve and refute, and the context that joins the solutions.
use Rattle.std.specs.Prelude.{◌≡◌, ◌≢◌, ℕ, ◌+◌, true, false, cond, eqb, List, [], ◌∷◌, ◌++◌, length, map, slice_get, Option, Some, None}
use Rattle.std.specs.List.{AllByRecursion}
use Rattle.core_rules.specs.declared.Flag.{Flag}
use Rattle.core_rules.specs.Term.{Term, Var, Sort, Pi, Lam, App, Def, Fam, Con, Proj, Meta, occurs, IsSameTerm}
use Rattle.core_rules.specs.Substitution.{over, shift, value_at, under}
use Rattle.core_rules.specs.Signature.{Context, Signature}
use Rattle.core_rules.specs.Elimination.{Elim, Arg}
use Rattle.core_rules.specs.Conversion.{Conv}
use Rattle.core_rules.specs.Typing.{WellFormed, Fits}
use Rattle.core_rules.specs.InScope.{VarsBelow}

pub record Equation : Type 0 where
  pub left : Term
  pub right : Term

pub record Solution : Type 0 where
  pub var : ℕ
  pub value : Term

abbrev pub eq : Term → Term → Equation
eq t u = record { left = t; right = u }

-- the types of the context's variables, each in the whole context, the equations, and the solutions, the last one first
pub data State : Type 0 where
  St : List Term → List Equation → List Solution → State

-- u for the variable x, which stays in the context
abbrev pub put_var : ℕ → Term → ℕ → ℕ → Term
put_var x u d i = cond (eqb i (x + d)) (shift u 0 d) (Var i)

abbrev pub put : ℕ → Term → Term → Term
put x u t = over (put_var x u) 0 t

abbrev pub put_equation : ℕ → Term → Equation → Equation
put_equation x u e = eq (put x u e.left) (put x u e.right)

abbrev pub put_in_solution : ℕ → Term → Solution → Solution
put_in_solution x u s = record { var = s.var; value = put x u s.value }

-- a type depends on the variables that stand in it and on those on which their types depend
pub data Depends (ts : List Term) : Term → ℕ → Type 0 where
  stands : {t : Term} {x : ℕ} → occurs x t ≡ true → Depends ts t x
  through : {t : Term} {x : ℕ} (y : ℕ) → occurs y t ≡ true → Depends ts (value_at ts y) x → Depends ts t x

-- x does not occur in t, and no variable of t has a type that depends on x
pub record CanSolve (ts : List Term) (x : ℕ) (t : Term) : Type 0 where
  pub absent : occurs x t ≡ false
  pub free : (y : ℕ) → occurs y t ≡ true → Depends ts (value_at ts y) x → ⊥

-- the constructor that t itself is, with its arguments and their flags, where t stands at the arguments es
abbrev pub con_spine : Term → List Elim → Option (ℕ × List Elim)
con_spine (Con k ps) es = Some (k, es)
con_spine (App b t u) es = con_spine t (Arg b u ∷ es)
con_spine (Var i) es = None
con_spine (Sort n) es = None
con_spine (Pi b x a t) es = None
con_spine (Lam b x a t) es = None
con_spine (Def f) es = None
con_spine (Fam d) es = None
con_spine (Proj f t) es = None
con_spine (Meta m ts) es = None

-- the equations of equally many arguments of equal flags
pub data Pairs : List Elim → List Elim → List Equation → Type 0 where
  no_pair : Pairs [] [] []
  pair : {b : Flag} {t u : Term} {es ds : List Elim} {qs : List Equation} → Pairs es ds qs → Pairs (Arg b t ∷ es) (Arg b u ∷ ds) (eq t u ∷ qs)

-- x stands in the term strictly under constructors only, or in one of these arguments under constructors only
mutual
  pub data UnderCon (x : ℕ) : Term → Type 0 where
    inside : {t : Term} {k : ℕ} {es : List Elim} → con_spine t [] ≡ Some (k, es) → InOne x es → UnderCon x t

  pub data InOne (x : ℕ) : List Elim → Type 0 where
    it : {b : Flag} {es : List Elim} → InOne x (Arg b (Var x) ∷ es)
    deeper : {b : Flag} {t : Term} {es : List Elim} → UnderCon x t → InOne x (Arg b t ∷ es)
    later : {e : Elim} {es : List Elim} → InOne x es → InOne x (e ∷ es)

-- x := t joins the solutions, and t is put for x everywhere
abbrev pub solve : ℕ → Term → List Term → List Equation → List Solution → State
solve x t ts es ss = St (map (put x t) ts) (map (put_equation x t) es) (record { var = x; value = t } ∷ map (put_in_solution x t) ss)

pub data Step (g : Signature Term) : State → State → Type 0 where
  exchange : {ts : List Term} {ss : List Solution} {t u t' u' : Term} (es ds : List Equation) → Conv g t t' → Conv g u u' → Step g (St ts (es ++ eq t u ∷ ds) ss) (St ts (es ++ eq t' u' ∷ ds) ss)
  delete : {ts : List Term} {ss : List Solution} {t u : Term} (es ds : List Equation) → Conv g t u → Step g (St ts (es ++ eq t u ∷ ds) ss) (St ts (es ++ ds) ss)
  solve_left : {ts : List Term} {ss : List Solution} {x : ℕ} {t : Term} (es ds : List Equation) → CanSolve ts x t → Step g (St ts (es ++ eq (Var x) t ∷ ds) ss) (solve x t ts (es ++ ds) ss)
  solve_right : {ts : List Term} {ss : List Solution} {x : ℕ} {t : Term} (es ds : List Equation) → CanSolve ts x t → Step g (St ts (es ++ eq t (Var x) ∷ ds) ss) (solve x t ts (es ++ ds) ss)
  inject : {ts : List Term} {ss : List Solution} {k : ℕ} {xs ys : List Elim} {qs : List Equation} (t u : Term) (es ds : List Equation) → con_spine t [] ≡ Some (k, xs) → con_spine u [] ≡ Some (k, ys) → Pairs xs ys qs
      → Step g (St ts (es ++ eq t u ∷ ds) ss) (St ts (es ++ (qs ++ ds)) ss)

pub data Steps (g : Signature Term) : State → State → Type 0 where
  stop : {s : State} → Steps g s s
  go : {s s' s'' : State} → Step g s s' → Steps g s' s'' → Steps g s s''

-- the types of a context's variables, innermost first, each in the whole context, where n entries stand inside it
abbrev pub whole_types : ℕ → Context Term → List Term
whole_types n [] = []
whole_types n (e ∷ c) = shift e.ty 0 (n + 1) ∷ whole_types (n + 1) c

abbrev pub begin : Context Term → List Equation → State
begin c es = St (whole_types 0 c) es []

-- steps lead from the equations and no solutions to no equation and the solutions
pub record Solves (g : Signature Term) (c : Context Term) (es : List Equation) (ss : List Solution) : Type 0 where
  pub types : List Term
  pub steps : Steps g (begin c es) (St types [] ss)

-- one of the equations is of two different constructors, or of a variable with a term in which it stands strictly under constructors only
pub data HasClash : List Equation → Type 0 where
  conflict : {t u : Term} {j k : ℕ} {xs ys : List Elim} {es : List Equation} → con_spine t [] ≡ Some (j, xs) → con_spine u [] ≡ Some (k, ys) → j ≢ k → HasClash (eq t u ∷ es)
  cycle_left : {x : ℕ} {t : Term} {es : List Equation} → UnderCon x t → HasClash (eq (Var x) t ∷ es)
  cycle_right : {x : ℕ} {t : Term} {es : List Equation} → UnderCon x t → HasClash (eq t (Var x) ∷ es)
  further : {e : Equation} {es : List Equation} → HasClash es → HasClash (e ∷ es)

-- steps lead from the equations to such an equation
pub record Refutes (g : Signature Term) (c : Context Term) (es : List Equation) : Type 0 where
  pub types : List Term
  pub equations : List Equation
  pub solved : List Solution
  pub steps : Steps g (begin c es) (St types equations solved)
  pub clash : HasClash equations

-- r has for each entry of c a term in scope in c', which for a solved variable is its value there, and keep has for each entry of c'
-- the variable of c for which r has it
pub record Joins (c : Context Term) (ss : List Solution) (c' : Context Term) (r : List Term) (keep : List ℕ) : Type 0 where
  pub long : length r ≡ length c
  pub scoped : AllByRecursion (λ t. VarsBelow (length c') t) r
  pub values : AllByRecursion (λ s. IsSameTerm (value_at r s.var) (under r s.value)) ss
  pub as_many : length keep ≡ length c'
  pub kept : (j k : ℕ) → slice_get keep j ≡ Some k → slice_get r k ≡ Some (Var j)

-- they join, c' is well formed, and r fits c in c'
pub record Realises (g : Signature Term) (c : Context Term) (ss : List Solution) (c' : Context Term) (r : List Term) (keep : List ℕ) : Type 0 where
  pub joins : Joins c ss c' r keep
  pub formed : WellFormed g c'
  pub fits : Fits g c' r c
