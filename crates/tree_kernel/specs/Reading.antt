-- The kernel's reading of case trees and declarations with the product's own unifier of indices.
use Rattle.std.specs.Prelude.{◌≡◌, ℕ}
use Rattle.core_rules.specs.Term.{Term}
use Rattle.core_rules.specs.Signature.{Context, Tree, Decl, Signature}
use Rattle.core_rules.specs.Unification.{begin}
use Rattle.core_rules.specs.UnifierAnswers.{Unifier}
use Rattle.kernel_rules.specs.Outcome.{Outcome}
use Rattle.kernel_rules.specs.Refusals.{DeclRefusal}
use Rattle.kernel_rules.specs.TreeReading.{TreeOf}
use Rattle.kernel_rules.specs.DeclReading.{DeclOf}
use Rattle.unify_rules.specs.Unifier as H
use Rattle.unify_rules.specs.Unifier.{Unify}
use Rattle.unify_rules.specs.Answered.{unified_of}

-- over g, to the equations of a context: what the outcome of unification says, with the branch that its solutions give
abbrev pub UnifiesAs : Signature Term → ℕ → ℕ → Unifier
UnifiesAs g fuel depth c es v = (o : H.Outcome) × (n : ℕ) × Unify g fuel depth (begin c es) o n × (v ≡ unified_of c o)

-- in context c the tree gives terms of type a, where l is the left side so far
abbrev pub ReadsTree : Signature Term → ℕ → ℕ → Context Term → Tree Term → Term → Term → Outcome DeclRefusal (Unit {0}) → Type 0
ReadsTree g fuel depth = TreeOf g fuel depth (UnifiesAs g fuel depth)

-- a declaration over g
abbrev pub ReadsDecl : Signature Term → ℕ → ℕ → Decl Term → Outcome DeclRefusal (Unit {0}) → Type 0
ReadsDecl g fuel depth = DeclOf (λ h. UnifiesAs h fuel depth) g fuel depth
