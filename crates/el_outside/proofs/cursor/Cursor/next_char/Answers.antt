use Rattle.std.proofs.Common.{sym, ◌∙◌}
use Rattle.std.proofs.lemmas.Str.{chars_past_char}
use Rattle.el_outside.proofs.Steps.{moved, after_line, after_column}
use Rattle.el_outside.proofs.cursor.Cursor.next_char.Goals as goal

pub returns-then-c-eq10 : goal.returns-then-c-eq10
returns-then-c-eq10 c =
    let split = sym c.chars-rest.ensures.rest ∙ c.in_ok-c.ensures.steps.0 ∙ cc (c.as_str-self-inside.ensures) in
    let first = chars_past_char _ _ _ c.self.ranges.0.1 split in
    rw (← c.self.view_is) (record { first = first; moved = moved _ _ _ _ _ first (after_line _ _ _ c.if-c-eq10.true c.len_utf8.ensures.value) })

pub returns-else-c-eq10 : goal.returns-else-c-eq10
returns-else-c-eq10 c =
    let split = sym c.chars-rest.ensures.rest ∙ c.in_ok-c.ensures.steps.0 ∙ cc (c.as_str-self-inside.ensures) in
    let first = chars_past_char _ _ _ c.self.ranges.0.1 split in
    rw (← c.self.view_is) (record { first = first; moved = moved _ _ _ _ _ first (after_column _ _ _ c.if-c-eq10.false c.len_utf8.ensures.value) })
