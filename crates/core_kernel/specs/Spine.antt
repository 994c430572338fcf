-- A function at many arguments, whose type is kept under those that were taken.
use Rattle.std.specs.Prelude.{◌≡◌, ℕ, ◌<◌, ◌≤◌, List, [], ◌∷◌, length, map, take, Result, Ok, Err}
use Rattle.std.specs.List.{AllByRecursion}
use Rattle.core_rules.specs.declared.Flag.{Flag}
use Rattle.core_rules.specs.Term.{Term, App}
use Rattle.core_rules.specs.Substitution.{over as traversed}
use Rattle.term_pool.specs.Pool.{Pool, tree}
use Rattle.term_pool.specs.Placed.{filled, filled_var}
use Rattle.kernel_rules.specs.Outcome.{Outcome, Gives, Refuses}
use Rattle.kernel_rules.specs.Refusals.{Refusal}
use Rattle.core_kernel.specs.declared.error.KernelError.{KernelError}
use Rattle.core_kernel.specs.declared.spine.Argument.{Argument}
use Rattle.core_kernel.specs.declared.spine.Spine as S
use Rattle.core_kernel.specs.declared.spine.Function as F
use Rattle.core_kernel.specs.Answers.{RefusedBy}

-- a function at arguments, the last one first, where f gives the trees of ids
abbrev pub unwound : (ℕ → Term) → Term → List Argument → Term
unwound f h [] = h
unwound f h (a ∷ xs) = App a.flag (unwound f h xs) (f a.term)

-- the function fun at the last argument, taken apart
pub record IsSpine (p : Pool) (b : Flag) (fun arg : ℕ) (s : S.Spine) : Type 0 where
  pub is : App b (tree p fun) (tree p arg) ≡ unwound (tree p) (tree p s.head) s.arguments.items
  pub head : s.head < length p.trees
  pub arguments : AllByRecursion (λ a. a.term < length p.trees) s.arguments.items
  pub terms : s.terms.items ≡ map (λ a. a.term) s.arguments.items
  pub some : 0 < length s.arguments.items

-- id t under the arguments taken, the last one first
abbrev pub filled_in : Pool → List ℕ → ℕ → Term
filled_in p ts t = filled (map (tree p) ts) (tree p t)

-- the parts of a function type under the arguments taken: the codomain stands under some of them, and one binder more
pub record IsFunction (p : Pool) (ts : List ℕ) (K : Term × Term → Type 0) (w : F.Function) : Type 0 where
  pub dom : w.dom < length p.trees
  pub cod : w.cod < length p.trees
  pub under : w.under ≤ length ts
  pub is : K (tree p w.dom, traversed (filled_var (map (tree p) (take w.under ts))) 1 (tree p w.cod))

abbrev pub AnswersFunction : Pool → List ℕ → (Outcome Refusal (Term × Term) → Type 0) → Result F.Function KernelError → Type 0
AnswersFunction p ts K (Ok w) = IsFunction p ts (λ u. K (Gives u)) w
AnswersFunction p ts K (Err e) = RefusedBy p (λ r. K (Refuses r)) e
