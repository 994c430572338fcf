-- The parameters of the record that a head form is, in code.
use Rattle.std.specs.Prelude.{ℕ, ◌<◌, List, length, map, Option, option_map, Result, Ok, Err}
use Rattle.std.specs.List.{AllByRecursion}
use Rattle.std.specs.declared.vec.Vec.{Vec}
use Rattle.core_rules.specs.Term.{Term}
use Rattle.core_rules.specs.Elimination.{elims}
use Rattle.term_pool.specs.Pool.{Pool, tree}
use Rattle.weak_head.specs.Elims.{spine_in}
use Rattle.weak_head.specs.declared.state.Applied as A
use Rattle.kernel_rules.specs.Outcome.{Outcome, Gives, Refuses}
use Rattle.kernel_rules.specs.Refusals.{Refusal}
use Rattle.kernel_rules.specs.TermReading.{some_params}
use Rattle.core_kernel.specs.declared.error.KernelError.{KernelError}
use Rattle.core_kernel.specs.Answers.{RefusedBy}

-- the parameters, or that the head form is another one
abbrev pub params_or : {G : Type 0} → (ℕ → Term) → A.Applied → Option (Vec ℕ G) → Outcome Refusal (List Term)
params_or f a o = some_params (elims (f a.head) (spine_in f a.spine.items)) (option_map (λ v. map f v.items) o)

-- the terms of ids
abbrev pub AnswersParams : {G : Type 0} → Pool → (Outcome Refusal (List Term) → Type 0) → Result (Vec ℕ G) KernelError → Type 0
AnswersParams p K (Ok v) = AllByRecursion (λ t. t < length p.trees) v.items × K (Gives (map (tree p) v.items))
AnswersParams p K (Err e) = RefusedBy p (λ r. K (Refuses r)) e
