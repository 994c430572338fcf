-- A head form is convertible to its term.
use Rattle.core_rules.specs.InScope.{any_meta}
use Rattle.core_rules.proofs.Heads.HeadConverts.{heads_convert}
use Rattle.core_rules.proofs.Heads.Regular.{regular_fit}
use Rattle.core_rules.proofs.Trees.Regular.{typed_trees-regular}
use Rattle.core_rules.proofs.tree_laws.typed_head_form_converts.Goals as goal

pub returns : goal.returns
returns c = λ g s f t es w n x i y d. heads_convert g s f t es w n x (regular_fit g any_meta i (typed_trees-regular g y)) d
