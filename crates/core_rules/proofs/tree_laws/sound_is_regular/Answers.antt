-- A sound signature has regular trees.
use Rattle.core_rules.proofs.Trees.Sound.{sound-regular}
use Rattle.core_rules.proofs.tree_laws.sound_is_regular.Goals as goal

pub returns : goal.returns
returns c = λ g k. sound-regular g k
