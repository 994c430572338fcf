use Rattle.std.proofs.Common.{sym}
use Rattle.agda_lexer.proofs.Levels.{set_border}
use Rattle.agda_lexer.proofs.run.after_set.Goals as goal

pub range_from-requires : goal.range_from-requires
range_from-requires c = λ _. set_border c.args.word.now c.utf8.word (rw c.as_bytes.ensures.value at (sym c.if-starts_with.ensures.value))
