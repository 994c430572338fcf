-- What the examples share: what is told of small terms, and signatures with one family.
use Rattle.std.proofs.Common.{ℕ, [], ◌∷◌}
use Rattle.core_rules.specs.Term.{Term, Sort}
use Rattle.core_rules.specs.Signature.{Signature, Family, FamDecl, Telescope}
use Rattle.core_rules.specs.Heads.{Form, Bounded, Within, HeadOf}
use Rattle.core_rules.specs.BoundedLaws.{no_solutions}
use Rattle.written_rules.proofs.Told.{form_told}
use Rattle.data_rules.specs.Rules.{known_family}

abbrev pub form : Term → Bounded
form t = Within (Form t []) 0

-- what a signature knows while the constructors and fields of its one family are read
abbrev pub alone : FamDecl Term → Signature Term
alone d = Family d ∷ []

abbrev pub plain_family : ℕ → Telescope Term → ℕ → FamDecl Term
plain_family x ps l = known_family x ps [] l

abbrev pub S0 : Term
S0 = Sort 0

-- a sort is its own head form in every signature
module _ (g : Signature Term) (fuel : ℕ) where
  pub set_told : (n : ℕ) → HeadOf g no_solutions (Sort n) fuel (form (Sort n))
  set_told n = form_told g fuel (Sort n) tt
