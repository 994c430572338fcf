-- The statements of the laws of the kernel's reading of families, case trees and declarations. The laws are proved of every relation that
-- is a unifier's; their statements are of functions.
use Rattle.std.specs.Prelude.{take, slice_get, Some, ◌≡◌, ℕ, [], ◌∷◌, ◌++◌}
use Rattle.std.specs.List.{AllByRecursion}
use Rattle.core_rules.specs.Term.{Term, HasNoMeta}
use Rattle.core_rules.specs.Signature.{Context, Tree, FamDecl, Decl, Postulate, Family, Open, Function, Signature}
use Rattle.core_rules.specs.Mapped.{AllClause}
use Rattle.core_rules.specs.BoundedLaws.{ExactlyOne}
use Rattle.core_rules.specs.TypedTree.{TypedTree}
use Rattle.core_rules.specs.TreeLaws.{IsSound}
use Rattle.core_rules.specs.InScope.{HasShape, ClauseInScope, FamilyInScope, DeclInScope, any_meta}
use Rattle.core_rules.specs.Derivable.{GoodFamily, Good, Derivable}
use Rattle.kernel_rules.specs.Outcome.{Outcome, Gives}
use Rattle.kernel_rules.specs.Refusals.{DeclRefusal}
use Rattle.kernel_rules.specs.FamilyReading.{FamilyOf}
use Rattle.kernel_rules.specs.TreeReading.{TreeOf}
use Rattle.kernel_rules.specs.DeclReading.{DeclOf}
use Rattle.core_rules.specs.UnifierAnswers.{Unifier, IsUnifier, Answers, answers}

abbrev pub AcceptedFamilyIsGood : Type 0
AcceptedFamilyIsGood = (g : Signature Term) (fuel depth : ℕ) (d : FamDecl Term) → Derivable g → HasShape d → FamilyOf g fuel depth d (Gives tt) → GoodFamily g d

abbrev pub OneFamilyOutcome : Type 0
OneFamilyOutcome = (g : Signature Term) (fuel depth : ℕ) (d : FamDecl Term) (r q : Outcome DeclRefusal (Unit {0})) → FamilyOf g fuel depth d r → FamilyOf g fuel depth d q → r ≡ q

abbrev pub AcceptedTreeIsTyped : Type 0
AcceptedTreeIsTyped = (g : Signature Term) (fuel depth : ℕ) (u : Answers) (c : Context Term) (T : Tree Term) (a l : Term) → IsSound g → IsUnifier g (answers u)
    → TreeOf g fuel depth (answers u) c T a l (Gives tt) → TypedTree g c T a l

abbrev pub OneTreeOutcome : Type 0
OneTreeOutcome = (g : Signature Term) (fuel depth : ℕ) (u : Answers) (c : Context Term) (T : Tree Term) (a l : Term) (r q : Outcome DeclRefusal (Unit {0}))
    → TreeOf g fuel depth (answers u) c T a l r → TreeOf g fuel depth (answers u) c T a l q → r ≡ q

-- what the kernel does not look at: a family has its shape, and the clauses of a function are in scope and have no metavariable
abbrev pub IsHandedIn : Signature Term → Decl Term → Type 0
IsHandedIn g (Postulate x a) = Unit {0}
IsHandedIn g (Family d) = HasShape d
IsHandedIn g (Open x a) = Unit {0}
IsHandedIn g (Function x a qs T) = AllByRecursion (ClauseInScope (g ++ Open x a ∷ []) any_meta) qs × AllByRecursion (AllClause HasNoMeta) qs

-- over each sound signature U has the answers of a unifier
abbrev pub Unifiers : (Signature Term → Unifier) → Type 0
Unifiers U = (g : Signature Term) → IsSound g → IsUnifier g (U g)

abbrev pub AcceptedIsGood : Type 0
AcceptedIsGood = (u : Signature Term → Answers) (g : Signature Term) (fuel depth : ℕ) (d : Decl Term) → Unifiers (λ g. answers (u g)) → Derivable g → IsHandedIn g d
    → DeclOf (λ g. answers (u g)) g fuel depth d (Gives tt) → Good g d

abbrev pub AcceptedIsDerivable : Type 0
AcceptedIsDerivable = (u : Signature Term → Answers) (g : Signature Term) (fuel depth : ℕ) (d : Decl Term) → Unifiers (λ g. answers (u g)) → Derivable g → IsHandedIn g d
    → DeclOf (λ g. answers (u g)) g fuel depth d (Gives tt) → Derivable (g ++ d ∷ [])

abbrev pub OneDeclOutcome : Type 0
OneDeclOutcome = (u : Signature Term → Answers) (g : Signature Term) (fuel depth : ℕ) (d : Decl Term) (r q : Outcome DeclRefusal (Unit {0}))
    → DeclOf (λ g. answers (u g)) g fuel depth d r → DeclOf (λ g. answers (u g)) g fuel depth d q → r ≡ q

-- a family and a declaration in scope: no rule is missing, and no two rules disagree
abbrev pub ExactlyOneFamilyOutcome : Type 0
ExactlyOneFamilyOutcome = (g : Signature Term) (fuel depth : ℕ) (d : FamDecl Term) → FamilyInScope g any_meta d → ExactlyOne (FamilyOf g fuel depth d)

abbrev pub ExactlyOneDeclOutcome : Type 0
ExactlyOneDeclOutcome = (u : Signature Term → Answers) (g : Signature Term) (fuel depth : ℕ) (d : Decl Term)
    → DeclInScope g any_meta d → ExactlyOne (DeclOf (λ g. answers (u g)) g fuel depth d)

-- each declaration is accepted over those before it
abbrev pub AllAccepted : (Signature Term → Unifier) → ℕ → ℕ → Signature Term → Type 0
AllAccepted U fuel depth g = (i : ℕ) (d : Decl Term) → slice_get g i ≡ Some d → IsHandedIn (take i g) d × DeclOf U (take i g) fuel depth d (Gives tt)

abbrev pub AllAcceptedIsDerivable : Type 0
AllAcceptedIsDerivable = (u : Signature Term → Answers) (g : Signature Term) (fuel depth : ℕ) → Unifiers (λ g. answers (u g)) → AllAccepted (λ g. answers (u g)) fuel depth g → Derivable g
