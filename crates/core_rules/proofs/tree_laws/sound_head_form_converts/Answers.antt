-- In a sound signature a head form is convertible to its term.
use Rattle.core_rules.proofs.Trees.Sound.{sound-heads}
use Rattle.core_rules.proofs.tree_laws.sound_head_form_converts.Goals as goal

pub returns : goal.returns
returns c = λ g s f t es w n k x d. sound-heads g k s f t es w n x d
