-- Declarations that are families of the right shape, and those that have it if they are families.
use Rattle.std.specs.Prelude.{◌≡◌}
use Rattle.core_rules.specs.Signature.{Family}
use Rattle.core_rules.specs.InScope.{HasShape}
use Rattle.core_terms.specs.Signature.{decl_of, fam_of}
use Rattle.core_terms.specs.declared.signature.CoreDecl.{CoreDecl}

pub record IsFamily (d : CoreDecl) : Type 0 where
  pub is : decl_of d ≡ Family (fam_of d)
  pub shape : HasShape (fam_of d)

pub record IsShaped (d : CoreDecl) : Type 0 where
  pub shape : decl_of d ≡ Family (fam_of d) → HasShape (fam_of d)
