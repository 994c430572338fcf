-- A yes implies conversion.
use Rattle.core_rules.specs.InScope.{any_meta}
use Rattle.core_rules.proofs.Heads.YesConverts.{yes_converts}
use Rattle.core_rules.proofs.Heads.Regular.{shapes, regular_fit}
use Rattle.core_rules.proofs.Trees.Regular.{typed_trees-regular}
use Rattle.core_rules.proofs.tree_laws.typed_yes_converts.Goals as goal

pub returns : goal.returns
returns c = λ g s f fuel depth t u x i y d. yes_converts g s f fuel depth t u x (shapes g any_meta i) (regular_fit g any_meta i (typed_trees-regular g y)) d
