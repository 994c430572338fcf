-- The statements of the laws of the kernel's reading with the product's own unifier.
use Rattle.std.specs.Prelude.{ℕ, [], ◌∷◌, ◌++◌, length}
use Rattle.core_rules.specs.Term.{Term}
use Rattle.core_rules.specs.Signature.{Context, Tree, Decl, Signature}
use Rattle.core_rules.specs.InScope.{InScope, TreeInScope, DeclInScope, any_meta}
use Rattle.core_rules.specs.ScopeLaws.{ContextInScope}
use Rattle.core_rules.specs.BoundedLaws.{ExactlyOne}
use Rattle.core_rules.specs.TreeLaws.{IsSound}
use Rattle.core_rules.specs.TypedTree.{TypedTree}
use Rattle.core_rules.specs.Derivable.{Derivable}
use Rattle.kernel_rules.specs.Outcome.{Gives}
use Rattle.kernel_rules.specs.DeclLaws.{IsHandedIn}
use Rattle.tree_kernel.specs.Reading.{ReadsTree, ReadsDecl}

-- a tree in scope: no rule is missing, and no two rules disagree
abbrev pub ExactlyOneTreeOutcome : Type 0
ExactlyOneTreeOutcome = (g : Signature Term) (fuel depth : ℕ) (c : Context Term) (T : Tree Term) (a l : Term) → TreeInScope g any_meta (length c) T
    → ExactlyOne (ReadsTree g fuel depth c T a l)

abbrev pub ExactlyOneDeclOutcome : Type 0
ExactlyOneDeclOutcome = (g : Signature Term) (fuel depth : ℕ) (d : Decl Term) → DeclInScope g any_meta d → ExactlyOne (ReadsDecl g fuel depth d)

-- in a context in scope, at a type and a left side in scope
abbrev pub AcceptedTreeIsTyped : Type 0
AcceptedTreeIsTyped = (g : Signature Term) (fuel depth : ℕ) (c : Context Term) (T : Tree Term) (a l : Term) → IsSound g → ContextInScope g any_meta c
    → TreeInScope g any_meta (length c) T → InScope g any_meta (length c) a → InScope g any_meta (length c) l
    → ReadsTree g fuel depth c T a l (Gives tt) → TypedTree g c T a l

abbrev pub AcceptedDeclIsDerivable : Type 0
AcceptedDeclIsDerivable = (g : Signature Term) (fuel depth : ℕ) (d : Decl Term) → Derivable g → IsHandedIn g d → DeclInScope g any_meta d
    → ReadsDecl g fuel depth d (Gives tt) → Derivable (g ++ d ∷ [])
