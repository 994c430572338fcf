use Rattle.std.proofs.Common.{◌≡◌, Some, Ok, rules, arith}
use Rattle.std.proofs.lemmas.Grind.{common_steps}
use Rattle.parse_laws.specs.Parser.{many_from}
use Rattle.expr_parser.proofs.Turns.{one_more, no_more}
use Rattle.agda_parser.proofs.LineSteps.{turned}
use Rattle.agda_parser.proofs.lines.read_lines.Goals as goal

pub loop-turn-init : goal.loop-turn-init
loop-turn-init g c = first_of (search rules, grind (arith, common_steps))

pub returns-in_err-line : goal.returns-in_err-line
unfolding many_from
returns-in_err-line g c =
    let e = one_more (λ n. many_from (λ _. g.T.Line.next c.args.text.now c.args.turns) n c.loop-turn.found c.loop-turn.signs) _ c.loop-turn._turn c.loop-turn-test.true in
    first_of (search rules, grind (arith, common_steps))

pub returns-in-None : goal.returns-in-None
unfolding many_from
returns-in-None g c =
    let e = one_more (λ n. many_from (λ _. g.T.Line.next c.args.text.now c.args.turns) n c.loop-turn.found c.loop-turn.signs) _ c.loop-turn._turn c.loop-turn-test.true in
    first_of (search rules, grind (arith, common_steps))

pub loop-turn-preserved : goal.loop-turn-preserved
loop-turn-preserved g c =
    let is : g.T.Line.next c.args.text.now c.args.turns c.loop-turn.signs ≡ Ok (Some c.in-Some.line, c.read_next.new.signs) = first_of (search rules, grind (arith, common_steps)) in
    turned (g.T.Line.next c.args.text.now c.args.turns) c.args.turns c.loop-turn._turn c.loop-turn.found c.push.new.self c.in-Some.line c.loop-turn.signs c.read_next.new.signs _ c.loop-turn-test.true c.loop-turn.invariant is c.in_ok-push-in-Some.ensures

pub returns : goal.returns
unfolding many_from
returns g c =
    let e = no_more (λ n. many_from (λ _. g.T.Line.next c.args.text.now c.args.turns) n c.loop-turn.found c.loop-turn.signs) _ c.loop-turn._turn c.loop-turn-test.false in
    first_of (search rules, grind (arith, common_steps))
