use Rattle.std.proofs.Common.{ap, sym, ◌∙◌}
use Rattle.std.specs.Str.{chars, encode_utf8_all}
use Rattle.std.proofs.lemmas.Str.{encodes-chars}
use Rattle.el_outside.proofs.cursor.Cursor.rest.Goals as goal

pub returns : goal.returns
returns c = rw (← c.self.view_is) (sym (encodes-chars c.as_str.result.now c.as_str.utf8) ∙ ap (λ bs. encode_utf8_all (chars bs)) (c.as_str.ensures ∙ c.chars.ensures.rest))
