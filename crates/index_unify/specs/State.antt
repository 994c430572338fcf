-- What the state of a unification in code is to the rules. Of its equations the first one is last, of its solutions the last one is last.
use Rattle.std.specs.Prelude.{◌≡◌, ℕ, ◌<◌, List, map, reverse, Option, Some, None}
use Rattle.std.specs.List.{AllByRecursion}
use Rattle.core_rules.specs.Term.{Term, AllMetas}
use Rattle.core_rules.specs.Substitution.{replace}
use Rattle.core_rules.specs.Heads.{Solutions}
use Rattle.core_rules.specs.Unification as U
use Rattle.core_rules.specs.Unification.{eq, St}
use Rattle.unify_rules.specs.Unifier as O
use Rattle.unify_rules.specs.Unifier.{Outcome}
use Rattle.term_pool.specs.Pool.{Pool, tree}
use Rattle.index_unify.specs.declared.equation.Equation.{Equation}
use Rattle.index_unify.specs.declared.equation.Solution.{Solution}
use Rattle.index_unify.specs.declared.state.State.{State}
use Rattle.index_unify.specs.declared.unified.Unified as N
use Rattle.index_unify.specs.declared.unified.Unified.TheVariants as A
use Rattle.index_unify.specs.declared.unified.Reason.{Reason}
use Rattle.index_unify.specs.declared.unified.Reason.TheVariants.{Conflict, Cycle}
use Rattle.index_unify.specs.declared.rule.Ending.{Ending}
use Rattle.index_unify.specs.declared.rule.Ending.TheVariants.{Refuted, Stuck, OutOfFuel, OutOfDepth}
use Rattle.index_unify.specs.declared.rule.Rule.{Rule}
use Rattle.index_unify.specs.declared.rule.Rule.TheVariants.{Delete, Solve, Inject, Ends}
use Rattle.index_unify.specs.Unified.{equation_in, EquationStands}

abbrev pub replaced : Solutions → U.Equation → U.Equation
replaced f e = eq (replace f e.left) (replace f e.right)

-- no solved metavariable stands in t
abbrev pub IsSettled : Solutions → Term → Type 0
IsSettled s t = AllMetas (λ m. s m ≡ None) t

abbrev pub solution_in : (ℕ → Term) → Solution → U.Solution
solution_in f s = record { var = s.var; value = f s.value }

abbrev pub equations_of : Pool → List Equation → List U.Equation
equations_of p es = map (equation_in (tree p)) (reverse es)

abbrev pub solutions_of : Pool → List Solution → List U.Solution
solutions_of p ss = map (solution_in (tree p)) (reverse ss)

abbrev pub state_in : Pool → State → U.State
state_in p s = St (map (tree p) s.types.items) (equations_of p s.equations.items) (solutions_of p s.solutions.items)

abbrev pub EquationSettled : Solutions → Pool → Equation → Type 0
EquationSettled s p e = IsSettled s (tree p e.left) × IsSettled s (tree p e.right)

abbrev pub AllSettled : Solutions → Pool → List Equation → Type 0
AllSettled s p es = AllByRecursion (EquationSettled s p) es

-- all its ids are below n
pub record StateBelow (n : ℕ) (x : State) : Type 0 where
  pub types : AllByRecursion (λ i. i < n) x.types.items
  pub equations : AllByRecursion (EquationStands n) x.equations.items
  pub solutions : AllByRecursion (λ y. y.value < n) x.solutions.items

abbrev pub reason_in : Reason → Outcome
reason_in (Conflict j k) = O.Conflict j k
reason_in (Cycle x) = O.Cycle x

abbrev pub ending_in : Pool → Ending → Outcome
ending_in p (Refuted r) = reason_in r
ending_in p (Stuck t u) = O.Stuck (tree p t) (tree p u)
ending_in p OutOfFuel = O.OutOfFuel
ending_in p OutOfDepth = O.OutOfDepth

abbrev pub EndingBelow : ℕ → Ending → Type 0
EndingBelow n (Refuted r) = Unit {0}
EndingBelow n (Stuck t u) = (t < n) × (u < n)
EndingBelow n OutOfFuel = Unit {0}
EndingBelow n OutOfDepth = Unit {0}

-- the equations of a rule stand with the first one last
abbrev pub rule_in : Pool → Rule → O.Rule
rule_in p Delete = O.Delete
rule_in p (Solve x) = O.Solve x.var (tree p x.value)
rule_in p (Inject es) = O.Inject (equations_of p es.items)
rule_in p (Ends e) = O.Ends (ending_in p e)

abbrev pub RuleBelow : ℕ → Rule → Type 0
RuleBelow n Delete = Unit {0}
RuleBelow n (Solve x) = x.value < n
RuleBelow n (Inject es) = AllByRecursion (EquationStands n) es.items
RuleBelow n (Ends e) = EndingBelow n e

-- what it brings into equations has no solved metavariable
abbrev pub RuleSettled : Solutions → Pool → Rule → Type 0
RuleSettled s p Delete = Unit {0}
RuleSettled s p (Solve x) = IsSettled s (tree p x.value)
RuleSettled s p (Inject es) = AllSettled s p es.items
RuleSettled s p (Ends e) = Unit {0}

-- what there is after a rule: its outcome, or the state
abbrev pub next_in : Pool → Option Ending → State → O.Next
next_in p None x = O.Goes (state_in p x)
next_in p (Some e) x = O.Answers (ending_in p e)

abbrev pub EndsBelow : ℕ → Option Ending → Type 0
EndsBelow n None = Unit {0}
EndsBelow n (Some e) = EndingBelow n e

-- the answer of an ending
abbrev pub ended : Ending → N.Unified
ended (Refuted r) = A.Refuted r
ended (Stuck t u) = A.Stuck t u
ended OutOfFuel = A.OutOfFuel
ended OutOfDepth = A.OutOfDepth
