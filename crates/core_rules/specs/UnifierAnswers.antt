-- What an index unifier answers those who split: the reading of declarations and the covering of clauses. And what makes a relation an
-- index unifier.
use Rattle.std.specs.Prelude.{◌≡◌, List, []}
use Rattle.core_rules.specs.Term.{Term}
use Rattle.core_rules.specs.Signature.{Context, Branch, Signature, onto}
use Rattle.core_rules.specs.Unification.{Equation, Solution, Solves, Refutes, Joins}

-- the solutions with the branch that joins them; that there is none; two sides at which no rule applies; a limit that was met
pub data Unified : Type 0 where
  UnifiedBy : List Solution → Branch Term → Unified
  NeverUnified : Unified
  StuckAt : Term → Term → Unified
  NoFuel : Unified
  NoDepth : Unified

-- the answers to equations between terms of a context
abbrev pub Unifier : Type 1
Unifier = Context Term → List Equation → Unified → Type 0

-- steps of unification solve the equations, and the branch joins the solutions
pub record IsUnified (g : Signature Term) (c : Context Term) (es : List Equation) (ss : List Solution) (b : Branch Term) : Type 0 where
  pub solves : Solves g c es ss
  pub joins : Joins c ss (onto b.context []) b.values b.keep

-- the answers U have the solutions and the refutations that they claim
pub record IsUnifier (g : Signature Term) (U : Unifier) : Type 0 where
  pub unified : (c : Context Term) (es : List Equation) (ss : List Solution) (b : Branch Term) → U c es (UnifiedBy ss b) → IsUnified g c es ss b
  pub never : (c : Context Term) (es : List Equation) → U c es NeverUnified → Refutes g c es

abbrev pub HasOneAnswer : Unifier → Type 0
HasOneAnswer U = (c : Context Term) (es : List Equation) (v w : Unified) → U c es v → U c es w → v ≡ w

-- A relation is too large for a contract to range over, a function from questions to answers is not
abbrev pub Answers : Type 0
Answers = Context Term → List Equation → Unified

-- the answers of a function, as a relation
abbrev pub answers : Answers → Unifier
answers u c es v = v ≡ u c es
