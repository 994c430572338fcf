-- A head form is convertible to its term.
use Rattle.core_rules.specs.InScope.{any_meta}
use Rattle.core_rules.proofs.Heads.Sound.{heads_sound}
use Rattle.core_rules.proofs.Heads.Regular.{regular_fit}
use Rattle.core_rules.proofs.Trees.Scoped.{derivable-in_scope}
use Rattle.core_rules.proofs.Trees.Regular.{typed_trees-regular, derivable-typed}
use Rattle.core_rules.proofs.tree_laws.derivable_head_form_converts.Goals as goal

pub returns : goal.returns
returns c = λ g t es w n r d. heads_sound g (regular_fit g any_meta (derivable-in_scope g r) (typed_trees-regular g (derivable-typed g r))) d
