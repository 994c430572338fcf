-- The statements of the laws of data and record declarations.
use Rattle.std.specs.Prelude.{ℕ}
use Rattle.core_rules.specs.Term.{Term}
use Rattle.core_rules.specs.Signature.{Signature, FamDecl}
use Rattle.core_rules.specs.InScope.{SignatureInScope, FamilyInScope, any_meta}
use Rattle.core_rules.specs.BoundedLaws.{ExactlyOne}
use Rattle.kernel_rules.specs.Outcome.{Gives}
use Rattle.resolved_tree.specs.declared.resolved.Resolved.{Resolved}
use Rattle.data_rules.specs.Families.{IsFamily, WrittenFamilyOf}

-- of any declaration, in scope or not
abbrev pub ExactlyOneFamily : Type 0
ExactlyOneFamily = (g : Signature Term) (fuel depth : ℕ) (e : Resolved) → IsFamily e → ExactlyOne (WrittenFamilyOf g fuel depth e)

-- the family of a declaration that is accepted is in scope, and has its shape, also where the declaration names what is not there
abbrev pub AcceptedFamilyInScope : Type 0
AcceptedFamilyInScope = (g : Signature Term) (fuel depth : ℕ) (e : Resolved) (d : FamDecl Term) → SignatureInScope g any_meta → WrittenFamilyOf g fuel depth e (Gives d) → FamilyInScope g any_meta d
