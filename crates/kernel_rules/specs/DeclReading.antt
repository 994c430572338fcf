-- The kernel's reading of a declaration.
use Rattle.std.specs.Prelude.{ℕ, [], ◌∷◌, ◌++◌, length}
use Rattle.core_rules.specs.Term.{Term, Def}
use Rattle.core_rules.specs.Signature.{Decl, Postulate, Family, Open, Function, Signature, defs}
use Rattle.kernel_rules.specs.Outcome.{Outcome}
use Rattle.kernel_rules.specs.TermReading.{IsTypeOf}
use Rattle.kernel_rules.specs.Refusals.{DeclRefusal, AfterTerms, IsAccepted, IsBadTree}
use Rattle.kernel_rules.specs.FamilyReading.{FamilyOf}
use Rattle.kernel_rules.specs.TreeReading.{TreeOf}
use Rattle.core_rules.specs.UnifierAnswers.{Unifier}

-- a declaration over g. U has the unifier's answers over each signature. The tree of a function is read while the function is known
-- without clauses and tree. A function that is handed in without a tree has none that any rule fits
abbrev pub DeclOf : (Signature Term → Unifier) → Signature Term → ℕ → ℕ → Decl Term → Outcome DeclRefusal (Unit {0}) → Type 0
DeclOf U g fuel depth (Postulate x a) r = AfterTerms (IsTypeOf g fuel depth [] a) (λ n. IsAccepted) r
DeclOf U g fuel depth (Family d) r = FamilyOf g fuel depth d r
DeclOf U g fuel depth (Open x a) r = IsBadTree r
DeclOf U g fuel depth (Function x a qs T) r = AfterTerms (IsTypeOf g fuel depth [] a) (λ n. TreeOf (g ++ Open x a ∷ []) fuel depth (U (g ++ Open x a ∷ [])) [] T a (Def (length (defs g)))) r
