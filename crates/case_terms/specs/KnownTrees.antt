-- Case trees all of whose parts are in scope, by marks on the terms of a pool.
use Rattle.std.specs.Prelude.{ℕ, ◌+◌, ◌-◌, ◌<◌, length, sum}
use Rattle.std.specs.List.{AllByRecursion}
use Rattle.core_rules.specs.Signature.{Branch, Tree, CoBranches, ConBranches, Leaf, Intro, Cosplit, Split, RecordSplit, Absurd, NoField, OnField, NoCon, Refuted, Goes, fams, con_counts, field_counts}
use Rattle.core_rules.specs.InScope.{arg_count, field_count}
use Rattle.case_terms.specs.declared.ids.Ids.{Ids}
use Rattle.case_terms.specs.Known.{IsTermUnder, AreTypesUnder}

-- where n new entries take the place of one of m
abbrev pub entries_for : ℕ → ℕ → ℕ
entries_for m n = m + n - 1

-- the constructor's context has m entries
pub record IsBranchUnder (x : Ids) (m : ℕ) (b : Branch ℕ) : Type 0 where
  pub context : AreTypesUnder x 0 b.context
  pub values : AllByRecursion (IsTermUnder x (length b.context)) b.values
  pub keep : AllByRecursion (λ i. i < m) b.keep

-- in a context of m entries
abbrev mutual
  pub IsTreeUnder : Ids → ℕ → Tree ℕ → Type 0
  IsTreeUnder x m (Leaf t n) = IsTermUnder x m t
  IsTreeUnder x m (Intro T) = IsTreeUnder x (m + 1) T
  IsTreeUnder x m (Cosplit bs) = AreFieldsUnder x m bs
  IsTreeUnder x m (Split k bs) = (k < m) × AreBranchesUnder x m bs
  IsTreeUnder x m (RecordSplit k d T) = (k < m) × (d < length (fams x.sig.now)) × IsTreeUnder x (entries_for m (field_count x.sig.now d)) T
  IsTreeUnder x m (Absurd k) = k < m

  pub AreFieldsUnder : Ids → ℕ → CoBranches ℕ → Type 0
  AreFieldsUnder x m NoField = Unit {0}
  AreFieldsUnder x m (OnField f T bs) = (f < sum (field_counts x.sig.now)) × IsTreeUnder x m T × AreFieldsUnder x m bs

  pub AreBranchesUnder : Ids → ℕ → ConBranches ℕ → Type 0
  AreBranchesUnder x m NoCon = Unit {0}
  AreBranchesUnder x m (Refuted k bs) = (k < sum (con_counts x.sig.now)) × AreBranchesUnder x m bs
  AreBranchesUnder x m (Goes k b T bs) = (k < sum (con_counts x.sig.now)) × IsBranchUnder x (entries_for m (arg_count x.sig.now k)) b
      × IsTreeUnder x (length b.context) T × AreBranchesUnder x m bs
