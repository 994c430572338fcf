use Rattle.std.proofs.Common.{string_bytes}
use Rattle.command_line.proofs.Seen.{mode_decides, seen_first}
use Rattle.command_line.proofs.rule.is_accepted.Goals as goal

pub loop-rest-preserved : goal.loop-rest-preserved
loop-rest-preserved c =
    seen_first string_bytes c.loop-rest.rest.now c.word-item.result c.as_str.result.now _ (c.in-Some.then, c.in-Some.so_far) _ _
    c.in-len1-up.len_at_least c.word-item.is c.as_str.ensures.value c.loop-rest.invariant c.in-Some.ensures

pub returns-in-Word : goal.returns-in-Word
returns-in-Word c =
    mode_decides string_bytes c.loop-rest.rest.now _ _ _ _ c.in_default.len_below c.loop-rest.invariant c.in-Word.is c.is_mode.ensures
