-- A derivable signature is sound.
use Rattle.core_rules.proofs.Trees.Sound.{derivable-sound}
use Rattle.core_rules.proofs.tree_laws.derivable_is_sound.Goals as goal

pub returns : goal.returns
returns c = λ g r. derivable-sound g r
