-- What is not convertible: sorts of different levels, and different constructors, where no rule of records or functions has an instance.
use Rattle.std.specs.Prelude.{◌≡◌, ℕ, List, [], ◌∷◌, None}
use Rattle.core_rules.specs.Term.{Term, Terms, Sort, Con}
use Rattle.core_rules.specs.Signature.{Telescope, Family, Signature, tree_of, field_place}
use Rattle.core_rules.specs.Elimination.{elims, args}
use Rattle.core_rules.specs.Conversion.{Conv, IsEtaCon}
use Rattle.core_rules.specs.Examples.{nat}
use Rattle.core_rules.specs.Addition.{zero_term, suc_term}

-- no function has a tree, and there are neither fields nor records that have eta: a signature of postulates and data types is so
pub record IsInert (g : Signature Term) : Type 0 where
  pub no_tree : (f : ℕ) → tree_of g f ≡ None
  pub no_field : (f : ℕ) → field_place g f ≡ None
  pub no_eta : (k d : ℕ) → IsEtaCon g k d → ⊥

abbrev pub SortsApart : Type 0
SortsApart = (g : Signature Term) (m n : ℕ) → IsInert g → Conv g (Sort m) (Sort n) → m ≡ n

abbrev pub ConstructorsApart : Type 0
ConstructorsApart = (g : Signature Term) (j k : ℕ) (ps qs : Terms) (es ds : Telescope Term) (us vs : List Term) → IsInert g → Conv g (elims (Con j ps) (args es us)) (elims (Con k qs) (args ds vs)) → j ≡ k

-- over the empty signature
abbrev pub SetIsNotItsType : Type 0
SetIsNotItsType = Conv [] (Sort 0) (Sort 1) → ⊥

-- over the natural numbers
abbrev pub ZeroIsNoSuccessor : Type 0
ZeroIsNoSuccessor = (t : Term) → Conv (Family nat ∷ []) zero_term (suc_term t) → ⊥
