-- In a sound signature a yes implies conversion.
use Rattle.core_rules.proofs.Trees.Sound.{sound-yes}
use Rattle.core_rules.proofs.tree_laws.sound_yes_converts.Goals as goal

pub returns : goal.returns
returns c = λ g s f fuel depth t u k x h. sound-yes g k s f fuel depth t u x h
