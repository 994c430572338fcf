-- What the calls on written expressions are given, and what they answer.
use Rattle.std.specs.Prelude.{ℕ, ◌<◌, List, length, map, reverse, Result, Ok, Err}
use Rattle.core_rules.specs.Term.{Term}
use Rattle.core_rules.specs.Signature.{Solved}
use Rattle.core_rules.specs.Mapped.{solved_map}
use Rattle.term_pool.specs.Pool.{Pool, tree}
use Rattle.kernel_rules.specs.Outcome.{Outcome, Gives, Refuses}
use Rattle.written_rules.specs.Refusals.{Refusal}
use Rattle.written_rules.specs.Rules.{Values}
use Rattle.elab_machine.specs.declared.values.Value.{Value}
use Rattle.elab_machine.specs.declared.error.WrittenError.{WrittenError}
use Rattle.elab_machine.specs.Answers.{RefusedBy}

-- its ids are below n
pub record IsSource (n : ℕ) (v : Solved ℕ) : Type 0 where
  pub value : v.value < n
  pub ty : v.ty < n

-- the values of source variables that stand in the order of their binding
abbrev pub source_values : Pool → List (Solved ℕ) → Values
source_values p vs = map (solved_map (tree p)) (reverse vs)

-- a value inside no binder, as its type
abbrev pub outermost : Solved ℕ → Value
outermost v = record { solved = v; inside = 0; ty_inside = 0 }

-- a type and the level of its sort
abbrev pub AnswersType : Pool → (Outcome Refusal (Term × ℕ) → Type 0) → Result (ℕ × ℕ) WrittenError → Type 0
AnswersType p K (Ok w) = (w.0 < length p.trees) × K (Gives (tree p w.0, w.1))
AnswersType p K (Err e) = RefusedBy p (λ r. K (Refuses r)) e
