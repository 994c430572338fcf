-- How deep patterns and case trees lead back to themselves.
use Rattle.std.specs.Prelude.{ℕ, ◌+◌}
use Rattle.core_rules.specs.Signature.{CorePat, PatShape, CorePats, Pat, VarPat, SolvedPat, DottedPat, ConPat, AbsurdPat, ProjectionPat, NoPat, AndPat, Tree, CoBranches, ConBranches, Leaf, Intro, Cosplit, Split, RecordSplit, Absurd, NoField, OnField, NoCon, Refuted, Goes}

abbrev mutual
  pub pat_size : CorePat ℕ → ℕ
  pat_size (Pat p o b) = shape_size p

  pub shape_size : PatShape ℕ → ℕ
  shape_size (VarPat i) = 0
  shape_size (SolvedPat t) = 0
  shape_size (DottedPat t) = 0
  shape_size (ConPat k ps) = pats_size ps
  shape_size AbsurdPat = 0
  shape_size (ProjectionPat k) = 0

  pub pats_size : CorePats ℕ → ℕ
  pats_size NoPat = 0
  pats_size (AndPat p ps) = 1 + pat_size p + pats_size ps

abbrev mutual
  pub tree_size : Tree ℕ → ℕ
  tree_size (Leaf t n) = 0
  tree_size (Intro T) = 1 + tree_size T
  tree_size (Cosplit bs) = co_size bs
  tree_size (Split k bs) = con_size bs
  tree_size (RecordSplit k d T) = 1 + tree_size T
  tree_size (Absurd k) = 0

  pub co_size : CoBranches ℕ → ℕ
  co_size NoField = 0
  co_size (OnField k T bs) = 1 + tree_size T + co_size bs

  pub con_size : ConBranches ℕ → ℕ
  con_size NoCon = 0
  con_size (Refuted k bs) = con_size bs
  con_size (Goes k b T bs) = 1 + tree_size T + con_size bs
