use Rattle.std.proofs.Common.{arith}
use Rattle.agda_lexer.proofs.Nested.{opens, closes, passes, keeps}
use Rattle.agda_lexer.proofs.piece.pass_close.Goals as goal

pub inside-preserved-then-are : goal.inside-preserved-then-are
inside-preserved-then-are c =
    keeps _ _ _ _ _ _ (opens c.args.mark c.inside.depth c.inside.cursor c.skip.new.self c.in-Some.c c.in-Some.ensures c.skip.ensures c.skip-then-are.new.self c.skip-then-are.ensures c.if-are.ensures) (omega arith) c.inside.invariant

pub inside-preserved-then-are-2 : goal.inside-preserved-then-are-2
inside-preserved-then-are-2 c =
    keeps _ _ _ _ _ _ (closes c.args.mark c.inside.depth c.inside.cursor c.skip.new.self c.in-Some.c c.in-Some.ensures c.skip.ensures c.skip-then-are-2.new.self c.skip-then-are-2.ensures c.if-are.ensures c.if-are-2.ensures c.if-depth-eq0.false) (omega arith) c.inside.invariant

pub inside-preserved : goal.inside-preserved
inside-preserved c =
    keeps _ _ _ _ _ _ (passes c.args.mark c.inside.depth c.inside.cursor c.skip.new.self c.in-Some.c c.in-Some.ensures c.skip.ensures c.if-are.ensures c.if-are-2.ensures) (omega arith) c.inside.invariant
