-- A sound signature with an open function is sound.
use Rattle.core_rules.proofs.Trees.Sound.{opened-sound}
use Rattle.core_rules.proofs.tree_laws.opened_is_sound.Goals as goal

pub returns : goal.returns
returns c = λ g x a k s n. opened-sound g x a k s n
