-- What the parts of a rule tell of two head forms.
use Rattle.std.specs.Prelude.{◌≡◌, ◌⊎◌, ℕ, List, ◌∷◌, Option, Some, None}
use Rattle.core_rules.specs.Term.{Term, Var}
use Rattle.core_rules.specs.Substitution.{replace}
use Rattle.core_rules.specs.Signature.{Signature}
use Rattle.core_rules.specs.Mapped.{signature_map}
use Rattle.core_rules.specs.Heads.{Solutions, Answer, Within, Out, HeadOf}
use Rattle.core_rules.specs.Bounded as B
use Rattle.core_rules.specs.BoundedLaws.{IsFull, shown}
use Rattle.core_rules.specs.Unification as U
use Rattle.core_rules.specs.Unification.{eq, St, CanSolve}
use Rattle.unify_rules.specs.Unifier as O
use Rattle.unify_rules.specs.Unifier.{after, Turn, Chosen, SameCon, OtherCon, Cycles, Ruled}
use Rattle.term_pool.specs.Pool.{Pool, tree}
use Rattle.core_terms.specs.Solutions.{IsInstance}
use Rattle.conversion.specs.declared.conv.Conv.{Conv}
use Rattle.conversion.specs.declared.conv.Conv.TheVariants as C
use Rattle.index_unify.specs.declared.equation.Solution.{Solution}
use Rattle.index_unify.specs.declared.rule.Rule.{Rule}
use Rattle.index_unify.specs.State.{rule_in}

-- t is a variable that u can solve
abbrev pub IsSolvable : List Term → Term → Term → Option ℕ → Type 0
IsSolvable ts t u None = (x : ℕ) → t ≡ Var x → CanSolve ts x u → ⊥
IsSolvable ts t u (Some x) = (t ≡ Var x) × CanSolve ts x u

-- the variable that is chosen, with its value
abbrev pub IsChosen : List Term → Term → Term → Pool → Option Solution → Type 0
IsChosen ts t u p None = (x : ℕ) (v : Term) → Chosen ts t u x v → ⊥
IsChosen ts t u p (Some s) = Chosen ts t u s.var (tree p s.value)

-- neither the same constructor with equations of its arguments nor two constructors
pub record NoConstructors (t u : Term) : Type 0 where
  pub no_inject : (qs : List U.Equation) → SameCon t u qs → ⊥
  pub no_conflict : (j k : ℕ) → OtherCon t u j k → ⊥

-- the rule for two constructors
pub data ByConstructors (t u : Term) : O.Rule → Type 0 where
  same : {qs : List U.Equation} → SameCon t u qs → ByConstructors t u (O.Inject qs)
  other : {j k : ℕ} → OtherCon t u j k → ByConstructors t u (O.Ends (O.Conflict j k))

-- the variable that is in a cycle
abbrev pub IsCycle : Term → Term → Option ℕ → Type 0
IsCycle t u None = (x : ℕ) → Cycles t u x → ⊥
IsCycle t u (Some x) = Cycles t u x

abbrev pub IsByConstructors : Term → Term → Pool → Option Rule → Type 0
IsByConstructors t u p None = NoConstructors t u
IsByConstructors t u p (Some r) = ByConstructors t u (rule_in p r)

-- v is one of the two sides
abbrev pub IsSide : ℕ → ℕ → Option Solution → Type 0
IsSide t u None = Unit {0}
IsSide t u (Some s) = (s.value ≡ t) ⊎ (s.value ≡ u)

-- r is the rule for the head forms t and u by the verdict that an answer gives; where it gives none there is no rule
abbrev pub RuledBy : List Term → Term → Term → Pool → Conv → O.Rule → Type 0
RuledBy ts t u p C.Yes r = Ruled ts t u B.Yes r
RuledBy ts t u p (C.No a b xs) r = Ruled ts t u (B.No (tree p a) (tree p b) xs) r
RuledBy ts t u p C.OutOfFuel r = Ruled ts t u B.OutOfFuel r
RuledBy ts t u p C.OutOfDepth r = Ruled ts t u B.OutOfDepth r
RuledBy ts t u p (C.Blocked m) r = Ruled ts t u (B.WaitsFor m) r
RuledBy ts t u p C.NoMemory r = ⊥

-- r is the rule for the equation of t and u, whatever comes after it, where solved metavariables are replaced
abbrev pub IsRuling : Signature Term → Solutions → ℕ → ℕ → List Term → Term → Term → O.Rule → Type 0
IsRuling g s fuel depth ts t u r =
    (f : Solutions) → IsFull s f → (es : List U.Equation) (ss : List U.Solution) → Turn (signature_map (replace f) g) fuel depth (St ts (eq t u ∷ es) ss) (after r ts es ss)

-- id r stands for the head form of t, with solved metavariables replaced
pub record IsFormOf (g : Signature Term) (s : Solutions) (t : Term) (fuel : ℕ) (p : Pool) (r : ℕ) : Type 0 where
  pub answer : Answer
  pub steps : ℕ
  pub is : HeadOf g s t fuel (Within answer steps)
  pub stands : IsInstance p s (shown answer) r

abbrev pub IsForm : Signature Term → Solutions → Term → ℕ → Pool → Option ℕ → Type 0
IsForm g s t fuel p None = HeadOf g s t fuel Out
IsForm g s t fuel p (Some r) = IsFormOf g s t fuel p r
