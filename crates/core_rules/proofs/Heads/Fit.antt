-- Trees that head forms follow soundly: each split finds its value, each branch keeps each variable at most once, each record split is of a record that has eta.
use Rattle.std.specs.Prelude.{◌≡◌, ℕ, ◌+◌, ◌-◌, ◌<◌, true, length, Some}
use Rattle.std.specs.List.{AllByRecursion}
use Rattle.core_rules.specs.Term.{Term}
use Rattle.core_rules.specs.Signature.{Branch, Tree, Leaf, Intro, Cosplit, Split, RecordSplit, Absurd, CoBranches, NoField, OnField, ConBranches, NoCon, Refuted, Goes, Signature, tree_of, fields_of}
use Rattle.core_rules.specs.Run.{takes}
use Rattle.core_rules.specs.Conversion.{IsEtaCon}
use Rattle.core_rules.specs.BoundedLaws.{AreDistinct}

-- d is a record that has eta, whose constructor has as many arguments as it has fields
pub record IsEtaRecord (g : Signature Term) (d : ℕ) : Type 0 where
  pub con : ℕ
  pub is : IsEtaCon g con d
  pub is_record : is.decl.is_record ≡ true
  pub as_many : length is.con.args ≡ length (fields_of g d)

-- of n variables, one of them replaced by the arguments of constructor k, the branch keeps some, each once
pub record KeepsOnce (g : Signature Term) (n k : ℕ) (b : Branch Term) : Type 0 where
  pub within : (m : ℕ) → takes g k m ≡ true → AllByRecursion (λ i. i < n + m - 1) b.keep
  pub once : AreDistinct b.keep

-- in an environment of n values each split finds its value, each branch keeps each variable at most once, and each record split is of a record that has eta
abbrev mutual
  pub IsFit : Signature Term → ℕ → Tree Term → Type 0
  IsFit g n (Leaf t i) = Unit {0}
  IsFit g n (Intro T) = IsFit g (n + 1) T
  IsFit g n (Cosplit bs) = AreFit g n bs
  IsFit g n (Split k bs) = (k < n) × BranchesFit g n bs
  IsFit g n (RecordSplit k d T) = (k < n) × IsEtaRecord g d × IsFit g (n + length (fields_of g d) - 1) T
  IsFit g n (Absurd k) = Unit {0}

  pub AreFit : Signature Term → ℕ → CoBranches Term → Type 0
  AreFit g n NoField = Unit {0}
  AreFit g n (OnField f T bs) = IsFit g n T × AreFit g n bs

  pub BranchesFit : Signature Term → ℕ → ConBranches Term → Type 0
  BranchesFit g n NoCon = Unit {0}
  BranchesFit g n (Refuted k bs) = BranchesFit g n bs
  BranchesFit g n (Goes k b T bs) = KeepsOnce g n k b × IsFit g (length b.keep) T × BranchesFit g n bs

-- so is the tree of each function of the signature
abbrev pub HasFitTrees : Signature Term → Type 0
HasFitTrees g = (f : ℕ) (T : Tree Term) → tree_of g f ≡ Some T → IsFit g 0 T
