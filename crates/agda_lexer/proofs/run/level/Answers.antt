use Rattle.std.proofs.Common.{refl}
use Rattle.agda_lexer.proofs.Levels.{level_empty, level_other}
use Rattle.agda_lexer.proofs.run.level.Goals as goal

pub returns-then-is_empty : goal.returns-then-is_empty
returns-then-is_empty c = rw (level_empty c.args.digits.now c.utf8.digits c.if-is_empty.ensures) refl

pub returns-else-is_number-2 : goal.returns-else-is_number-2
returns-else-is_number-2 c = rw (level_other c.args.digits.now c.utf8.digits c.if-is_empty.ensures c.if-is_number.ensures c.if-is_number-2.ensures) refl
