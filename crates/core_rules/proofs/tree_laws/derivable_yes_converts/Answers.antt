-- In a derivable signature a yes implies conversion.
use Rattle.core_rules.proofs.Trees.Sound.{derivable-sound, sound-plain_yes}
use Rattle.core_rules.proofs.tree_laws.derivable_yes_converts.Goals as goal

pub returns : goal.returns
returns c = λ g fuel depth t u r h. sound-plain_yes g (derivable-sound g r) fuel depth t u h
