use Rattle.std.proofs.Common.{◌≡◌, refl, rules, arith}
use Rattle.std.proofs.lemmas.Grind.{common_steps}
use Rattle.expr_parser.specs.PatternSyntax.{pattern, one_elim, elims}
use Rattle.parse_laws.specs.Parser.{many_from}
use Rattle.expr_parser.proofs.Turns.{one_more, no_more, deeper}
use Rattle.expr_parser.proofs.patterns.+pattern.Goals as goal

pub read_elims-loop-turn-init : goal.read_elims-loop-turn-init
unfolding elims
read_elims-loop-turn-init t c = first_of (search rules, grind (arith, common_steps))

pub read_elims-returns-in_err-pattern : goal.read_elims-returns-in_err-pattern
unfolding elims many_from
read_elims-returns-in_err-pattern t c =
    let e = one_more (λ n. many_from (λ _. one_elim c.args.text.now c.args.turns (pattern c.args.text.now c.args.turns)) n c.loop-turn.found c.loop-turn.signs) _ c.loop-turn._turn c.loop-turn-test.true in
    first_of (search rules, grind (arith, common_steps))

pub read_elims-returns-in-None : goal.read_elims-returns-in-None
unfolding elims many_from
read_elims-returns-in-None t c =
    let e = one_more (λ n. many_from (λ _. one_elim c.args.text.now c.args.turns (pattern c.args.text.now c.args.turns)) n c.loop-turn.found c.loop-turn.signs) _ c.loop-turn._turn c.loop-turn-test.true in
    first_of (search rules, grind (arith, common_steps))

pub read_elims-loop-turn-preserved : goal.read_elims-loop-turn-preserved
unfolding many_from
read_elims-loop-turn-preserved t c =
    let e = one_more (λ n. many_from (λ _. one_elim c.args.text.now c.args.turns (pattern c.args.text.now c.args.turns)) n c.loop-turn.found c.loop-turn.signs) _ c.loop-turn._turn c.loop-turn-test.true in
    first_of (search rules, grind (arith, common_steps))

pub read_elims-returns : goal.read_elims-returns
unfolding elims many_from
read_elims-returns t c =
    let e = no_more (λ n. many_from (λ _. one_elim c.args.text.now c.args.turns (pattern c.args.text.now c.args.turns)) n c.loop-turn.found c.loop-turn.signs) _ c.loop-turn._turn c.loop-turn-test.false in
    first_of (search rules, grind (arith, common_steps))

pub pattern-returns-then-turns-eq0 : goal.pattern-returns-then-turns-eq0
unfolding pattern
pattern-returns-then-turns-eq0 t c = λ _. let none : c.args.turns ≡ 0 = omega arith in rw (none, c.left.ensures.value) refl

pub pattern-returns : goal.pattern-returns
unfolding pattern
pattern-returns t c = rw (deeper (λ n. pattern c.args.text.now n c.args.signs.now) c.args.turns (omega arith)) c.pattern_level.ensures
