-- What a left side is read over in code, and what a call leaves of it.
use Rattle.std.specs.Prelude.{◌≡◌, ℕ, length, Option}
use Rattle.core_rules.specs.Term.{Term}
use Rattle.core_rules.specs.Signature.{Signature}
use Rattle.core_rules.specs.InScope.{IsAcyclic}
use Rattle.core_rules.specs.Heads.{Solutions}
use Rattle.term_pool.specs.Pool.{tree, Extends}
use Rattle.core_terms.specs.Signature.{Stands, signature_in}
use Rattle.core_terms.specs.Solutions.{AreIn, solved_in}
use Rattle.lhs_rules.specs.Spots.{Left}
use Rattle.lhs_rules.specs.Asking.{Asking, Comes as ComesBy}
use Rattle.lhs_rules.specs.Patterns.{AnswersWith}
use Rattle.lhs_elab.specs.declared.elaborator.Elaborator.{Elaborator}
use Rattle.lhs_elab.specs.Lefts.{left_in, LeftBelow}

abbrev pub signature_of : {S : Type 0} → Elaborator S → Signature Term
signature_of x = signature_in x.pool.now x.signature.now

abbrev pub left_of : {S : Type 0} → Elaborator S → Left
left_of x = left_in x.pool.now x.left.now

abbrev pub term_of : {S : Type 0} → Elaborator S → ℕ → Term
term_of x t = tree x.pool.now t

-- the solutions, by the ids that they have
abbrev pub solved_of : {S : Type 0} → (S → ℕ → Option ℕ) → Elaborator S → Solutions
solved_of s x = solved_in x.pool.now (s x.solutions.now)

pub record IsReady {S : Type 0} (s : S → ℕ → Option ℕ) (x : Elaborator S) : Type 0 where
  pub signature : Stands x.pool.now x.signature.now
  pub solutions : AreIn x.pool.now (s x.solutions.now)
  pub acyclic : IsAcyclic (solved_of s x)
  pub left : LeftBelow (length x.pool.now.trees) x.left.now

-- the pool grew, and is the same pool
pub record Grows {S : Type 0} (x y : Elaborator S) : Type 0 where
  pub same_reference : y.pool.ghost_name ≡ x.pool.ghost_name
  pub extends : Extends x.pool.now y.pool.now
  pub same_left : y.left.ghost_name ≡ x.left.ghost_name

-- what else is read over is the same
pub record Keeps {S : Type 0} (x y : Elaborator S) : Type 0 where
  pub signature : y.signature.now ≡ x.signature.now
  pub solutions : y.solutions.now ≡ x.solutions.now
  pub function : y.function ≡ x.function
  pub limits : y.limits ≡ x.limits

-- over which signature and solutions, which the full ones replace everywhere, and within which limits a left side is read
pub record Over : Type 0 where
  pub signature : Signature Term
  pub solved : Solutions
  pub full : Solutions
  pub fuel : ℕ
  pub depth : ℕ

abbrev pub over : {S : Type 0} → (S → ℕ → Option ℕ) → Solutions → Elaborator S → Over
over s f x = record { signature = signature_of x; solved = solved_of s x; full = f; fuel = x.limits.fuel; depth = x.limits.depth }

abbrev pub Comes : Over → {A : Type 0} → Asking A → A → Type 0
Comes o m r = ComesBy o.signature o.solved o.fuel (AnswersWith o.signature o.full o.fuel o.depth) m r
