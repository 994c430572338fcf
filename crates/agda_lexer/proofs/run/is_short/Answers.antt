use Rattle.std.proofs.Common.{sym, ◌∙◌}
use Rattle.agda_lexer.proofs.Levels.{short_is}
use Rattle.agda_lexer.proofs.run.is_short.Goals as goal

pub returns-else-first-base : goal.returns-else-first-base
returns-else-first-base c =
    let split = sym c.chars-rest.ensures.rest ∙ c.in-Some.ensures.steps.0 in
    rw (c.is_empty.ensures, c.as_str.ensures) (short_is _ _ _ _ c.utf8.digits (rw c.as_str.ensures at c.as_str.utf8) split c.if-first-base.false)
