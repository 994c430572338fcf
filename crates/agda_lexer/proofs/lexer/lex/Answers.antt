use Rattle.agda_lexer.specs.Tokens.{lex_of}
use Rattle.agda_lexer.proofs.Turns.{begins, stops, fails, goes}
use Rattle.agda_lexer.proofs.lexer.lex.Goals as goal

pub pieces-init : goal.pieces-init
pieces-init c = rw c.in_ok-with_capacity.ensures.items (begins _ _ c.new-cursor.ensures)

pub returns-in-Err : goal.returns-in-Err
unfolding lex_of
returns-in-Err c = rw c.pos-pos.ensures (fails _ _ _ _ _ _ _ c.in-Some.ensures c.in-Err.ensures.reads c.pieces.invariant)

pub pieces-preserved : goal.pieces-preserved
pieces-preserved c = goes _ _ _ _ _ _ _ _ _ _ _ _ _ c.in-Some.ensures c.in-Ok.ensures.reads c.pos-pos.ensures c.at-start.ensures c.at-end.ensures c.in_ok-add.ensures c.is_run-joined.ensures c.pieces.invariant

pub returns : goal.returns
unfolding lex_of
returns c = rw c.from_vec.ensures (stops _ _ _ _ c.in_default.ensures c.pieces.invariant)
