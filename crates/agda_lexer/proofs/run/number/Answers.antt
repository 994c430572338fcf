use Rattle.std.proofs.Common.{◌≡◌, ◌+◌, ◌*◌, ◌-◌, arith, min}
use Rattle.std.proofs.lemmas.Iterator.{YieldsList-from_chars}
use Rattle.std.proofs.lemmas.Iterator.Consumers.{YieldsList-turn, YieldsList-end}
use Rattle.std.proofs.lemmas.List.{length_push}
use Rattle.agda_lexer.proofs.Levels.{number_turn, number_end}
use Rattle.agda_lexer.proofs.run.number.Goals as goal

pub loop-c-preserved : goal.loop-c-preserved
loop-c-preserved c =
    let t = YieldsList-turn (YieldsList-from_chars c.args.digits.now c.utf8.digits cc) c.loop-c.yielded _ c.loop-c.yielded_by _ _ c.in-Some.c c.in-Some.is c.next.ensures.steps in
    let n : c.min-n.result ≡ min (10 * c.loop-c.n + (c.in-Some.c - c.args.base)) 1000001 = omega arith in
    (omega arith, rw (length_push c.loop-c.yielded c.in-Some.c) (number_turn _ _ _ _ _ _ _ _ t n c.loop-c.invariant.1))

pub returns : goal.returns
returns c =
    let t = YieldsList-end (YieldsList-from_chars c.args.digits.now c.utf8.digits cc) c.loop-c.yielded _ c.loop-c.yielded_by _ _ c.in-None.is c.next.ensures.steps in
    number_end _ _ _ _ _ _ t.1 c.loop-c.invariant.0 c.loop-c.invariant.1
