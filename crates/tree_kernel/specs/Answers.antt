-- What an answer in code is to the reading of a declaration, over a pool. Nothing is said of an answer for want of memory.
use Rattle.std.specs.Prelude.{◌≡◌, ◌≢◌, ℕ, Some, Result, Ok, Err}
use Rattle.core_rules.specs.Signature.{Signature, Open, def_decl}
use Rattle.term_pool.specs.Pool.{Pool}
use Rattle.kernel_rules.specs.Outcome.{Outcome, Gives, Refuses}
use Rattle.kernel_rules.specs.Refusals.{Refusal, DeclRefusal, OfKernel, ConShape, TooBig, BadTree}
use Rattle.core_kernel.specs.Answers.{RefusedBy}
use Rattle.core_kernel.specs.declared.error.KernelError.{KernelError}
use Rattle.core_kernel.specs.declared.error.KernelError.TheVariants as E
use Rattle.core_kernel.specs.declared.error.FamilyError.{FamilyError}
use Rattle.core_kernel.specs.declared.error.FamilyError.TheVariants as F
use Rattle.tree_kernel.specs.declared.error.DeclError.{DeclError}
use Rattle.tree_kernel.specs.declared.error.DeclError.TheVariants as D

-- the refusal of a term as that of its declaration
abbrev pub of_term : KernelError → DeclError
of_term (E.Mismatch a b) = D.Kernel (E.Mismatch a b)
of_term (E.NotAFunction a) = D.Kernel (E.NotAFunction a)
of_term (E.NotARecord a) = D.Kernel (E.NotARecord a)
of_term (E.NotAType a) = D.Kernel (E.NotAType a)
of_term E.LevelTooLarge = D.Kernel E.LevelTooLarge
of_term (E.MetaLeft m) = D.Kernel (E.MetaLeft m)
of_term E.OutOfFuel = D.Kernel E.OutOfFuel
of_term E.OutOfDepth = D.Kernel E.OutOfDepth
of_term E.NoMemory = D.NoMemory

abbrev pub of_family : FamilyError → DeclError
of_family (F.Kernel e) = D.Kernel e
of_family F.ConShape = D.ConShape
of_family F.TooBig = D.TooBig
of_family F.NoMemory = D.NoMemory

-- K holds of the refusal that an error is
abbrev pub RefusedDecl : Pool → (DeclRefusal → Type 0) → DeclError → Type 0
RefusedDecl p K (D.Kernel e) = (e ≢ E.NoMemory) × RefusedBy p (λ r. K (OfKernel r)) e
RefusedDecl p K D.ConShape = K ConShape
RefusedDecl p K D.TooBig = K TooBig
RefusedDecl p K D.BadTree = K BadTree
RefusedDecl p K D.NoMemory = Unit {0}

-- K holds of the outcome
abbrev pub AnswersDecl : Pool → (Outcome DeclRefusal (Unit {0}) → Type 0) → Result (Unit {0}) DeclError → Type 0
AnswersDecl p K (Ok o) = K (Gives tt)
AnswersDecl p K (Err e) = RefusedDecl p (λ r. K (Refuses r)) e

-- K holds of some level; a refusal is that of the declaration's term
abbrev pub AnswersType : Pool → (Outcome Refusal ℕ → Type 0) → Result (Unit {0}) DeclError → Type 0
AnswersType p K (Ok o) = (n : ℕ) × K (Gives n)
AnswersType p K (Err (D.Kernel e)) = (e ≢ E.NoMemory) × RefusedBy p (λ r. K (Refuses r)) e
AnswersType p K (Err D.ConShape) = ⊥
AnswersType p K (Err D.TooBig) = ⊥
AnswersType p K (Err D.BadTree) = ⊥
AnswersType p K (Err D.NoMemory) = Unit {0}

-- function f is known with this type, without clauses and tree
pub record IsOpenAt (g : Signature ℕ) (f a : ℕ) : Type 0 where
  pub name : ℕ
  pub is : def_decl g f ≡ Some (Open name a)
