-- What a case tree in code is to the rules.
use Rattle.std.specs.Prelude.{ℕ, List, [], ◌∷◌}
use Rattle.core_rules.specs.Signature.{Tree, CoBranches, ConBranches, Leaf, Intro, Cosplit, Split, RecordSplit, Absurd, NoField, OnField, NoCon, Refuted, Goes}
use Rattle.core_terms.specs.declared.tree.Step.{Step}
use Rattle.core_terms.specs.declared.tree.Step.TheVariants as S
use Rattle.core_terms.specs.declared.tree.CoBranch.{CoBranch}
use Rattle.core_terms.specs.declared.tree.ConBranch.{ConBranch}
use Rattle.core_terms.specs.declared.tree.Way.{Way}
use Rattle.core_terms.specs.declared.tree.Way.TheVariants as W

abbrev pub co_of : List CoBranch → CoBranches ℕ
co_of [] = NoField
co_of (b ∷ bs) = OnField b.field b.rest (co_of bs)

abbrev pub way_of : ℕ → Way → ConBranches ℕ → ConBranches ℕ
way_of k W.Refuted bs = Refuted k bs
way_of k (W.Goes b t) bs = Goes k b t bs

abbrev pub con_of : List ConBranch → ConBranches ℕ
con_of [] = NoCon
con_of (b ∷ bs) = way_of b.con b.way (con_of bs)

abbrev pub step_of : Step → Tree ℕ
step_of (S.Leaf t n) = Leaf t n
step_of (S.Intro r) = Intro r.value
step_of (S.Cosplit bs) = Cosplit (co_of bs.items)
step_of (S.Split k bs) = Split k (con_of bs.items)
step_of (S.RecordSplit k d r) = RecordSplit k d r.value
step_of (S.Absurd k) = Absurd k
