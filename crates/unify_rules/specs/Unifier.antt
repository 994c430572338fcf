-- What the unifier answers: always the first equation, after the head forms of both sides, and the first rule that applies.
-- No metavariable is solved here: with solutions it is the unifier on the signature, the context and the equations in which they are replaced.
use Rattle.std.specs.Prelude.{◌≡◌, ◌≢◌, ℕ, ◌<◌, suc, List, [], ◌∷◌, ◌++◌, map, Some}
use Rattle.core_rules.specs.Term.{Term, Var}
use Rattle.core_rules.specs.Substitution.{replace}
use Rattle.core_rules.specs.Signature.{Context, Signature}
use Rattle.core_rules.specs.Mapped.{telescope_map, signature_map}
use Rattle.core_rules.specs.Elimination.{Elim}
use Rattle.core_rules.specs.Heads.{Solutions, Answer, Within, Out, HeadOf}
use Rattle.core_rules.specs.Bounded as B
use Rattle.core_rules.specs.Bounded.{Verdict, Yes, No, WaitsFor, ConvOf}
use Rattle.core_rules.specs.BoundedLaws.{no_solutions, shown}
use Rattle.core_rules.specs.Unification.{Equation, eq, Solution, State, St, CanSolve, con_spine, Pairs, UnderCon, solve, begin}

pub data Outcome : Type 0 where
  -- the types of the variables at the end, each in the whole context, and the solutions, the last one first
  Solved : List Term → List Solution → Outcome
  -- the two constructors, left first
  Conflict : ℕ → ℕ → Outcome
  -- the variable
  Cycle : ℕ → Outcome
  -- the two head forms to which no rule applies
  Stuck : Term → Term → Outcome
  OutOfFuel : Outcome
  OutOfDepth : Outcome

pub data Rule : Type 0 where
  Delete : Rule
  Solve : ℕ → Term → Rule
  Inject : List Equation → Rule
  Ends : Outcome → Rule

-- the variable that is solved, and its value: of two variables the one later in the context, where each could be
pub data Chosen (ts : List Term) : Term → Term → ℕ → Term → Type 0 where
  left_one : {x : ℕ} {u : Term} → CanSolve ts x u → ((y : ℕ) → u ≡ Var y → CanSolve ts y (Var x) → x < y) → Chosen ts (Var x) u x u
  right_one : {y : ℕ} {t : Term} → CanSolve ts y t → ((x : ℕ) → t ≡ Var x → CanSolve ts x (Var y) → y < x) → Chosen ts t (Var y) y t

pub data SameCon (t u : Term) (qs : List Equation) : Type 0 where
  same_con : {k : ℕ} {xs ys : List Elim} → con_spine t [] ≡ Some (k, xs) → con_spine u [] ≡ Some (k, ys) → Pairs xs ys qs → SameCon t u qs

pub data OtherCon (t u : Term) (j k : ℕ) : Type 0 where
  other_con : {xs ys : List Elim} → con_spine t [] ≡ Some (j, xs) → con_spine u [] ≡ Some (k, ys) → j ≢ k → OtherCon t u j k

pub data Cycles : Term → Term → ℕ → Type 0 where
  cycles_left : {x : ℕ} {u : Term} → UnderCon x u → Cycles (Var x) u x
  cycles_right : {y : ℕ} {t : Term} → UnderCon y t → Cycles t (Var y) y

pub record NoRule (ts : List Term) (t u : Term) : Type 0 where
  pub no_solve : (x : ℕ) (v : Term) → Chosen ts t u x v → ⊥
  pub no_inject : (qs : List Equation) → SameCon t u qs → ⊥
  pub no_conflict : (j k : ℕ) → OtherCon t u j k → ⊥
  pub no_cycle : (x : ℕ) → Cycles t u x → ⊥

-- the rule for two head forms that are not found convertible
pub data Applies (ts : List Term) (t u : Term) : Rule → Type 0 where
  solves : {x : ℕ} {v : Term} → Chosen ts t u x v → Applies ts t u (Solve x v)
  injects : {qs : List Equation} → SameCon t u qs → Applies ts t u (Inject qs)
  conflicts : {j k : ℕ} → OtherCon t u j k → Applies ts t u (Ends (Conflict j k))
  cycles : {x : ℕ} → Cycles t u x → Applies ts t u (Ends (Cycle x))
  sticks : NoRule ts t u → Applies ts t u (Ends (Stuck t u))

-- the rule for two head forms with this verdict
abbrev pub Ruled : List Term → Term → Term → Verdict → Rule → Type 0
Ruled ts t u Yes r = r ≡ Delete
Ruled ts t u B.OutOfFuel r = r ≡ Ends OutOfFuel
Ruled ts t u B.OutOfDepth r = r ≡ Ends OutOfDepth
Ruled ts t u (No v w xs) r = Applies ts t u r
Ruled ts t u (WaitsFor m) r = Applies ts t u r

pub data Next : Type 0 where
  Answers : Outcome → Next
  Goes : State → Next

-- what a rule does with the first equation, where es are those after it
abbrev pub after : Rule → List Term → List Equation → List Solution → Next
after Delete ts es ss = Goes (St ts es ss)
after (Solve x t) ts es ss = Goes (solve x t ts es ss)
after (Inject qs) ts es ss = Goes (St ts (qs ++ es) ss)
after (Ends o) ts es ss = Answers o

module _ (g : Signature Term) (fuel depth : ℕ) where
  pub data Turn : State → Next → Type 0 where
    done : {ts : List Term} {ss : List Solution} → Turn (St ts [] ss) (Answers (Solved ts ss))
    out_left : {ts : List Term} {t u : Term} {es : List Equation} {ss : List Solution} → HeadOf g no_solutions t fuel Out → Turn (St ts (eq t u ∷ es) ss) (Answers OutOfFuel)
    out_right : {ts : List Term} {t u : Term} {es : List Equation} {ss : List Solution} {v : Answer} {n : ℕ} → HeadOf g no_solutions t fuel (Within v n) → HeadOf g no_solutions u fuel Out → Turn (St ts (eq t u ∷ es) ss) (Answers OutOfFuel)
    turn : {ts : List Term} {t u : Term} {es : List Equation} {ss : List Solution} {v w : Answer} {n m : ℕ} {x : Next} (q : Verdict) (r : Rule)
        → HeadOf g no_solutions t fuel (Within v n) → HeadOf g no_solutions u fuel (Within w m) → ConvOf g no_solutions fuel depth t u q → Ruled ts (shown v) (shown w) q r → x ≡ after r ts es ss → Turn (St ts (eq t u ∷ es) ss) x

  -- the state has this answer, before which so many turns go on
  pub data Unify : State → Outcome → ℕ → Type 0 where
    answers : {s : State} {o : Outcome} → Turn s (Answers o) → Unify s o 0
    goes : {s s' : State} {o : Outcome} {n : ℕ} → Turn s (Goes s') → Unify s' o n → Unify s o (suc n)

-- the unifier's answer on the equations in the context, with these solutions, each of which has those of the metavariables in it put in
abbrev pub UnifyOf : Signature Term → Solutions → ℕ → ℕ → Context Term → List Equation → Outcome → Type 0
UnifyOf g f fuel depth c es o =
    (n : ℕ) × Unify (signature_map (replace f) g) fuel depth (begin (telescope_map (replace f) c) (map (λ e. eq (replace f e.left) (replace f e.right)) es)) o n
