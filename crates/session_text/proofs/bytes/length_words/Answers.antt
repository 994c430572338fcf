use Rattle.std.proofs.Common.{◌∙◌, append_assoc}
use Rattle.session_text.proofs.bytes.length_words.Goals as goal

pub returns : goal.returns
returns c = c.in_ok-format.ensures.ok ∙ simp append_assoc
