use Rattle.std.proofs.Common.{rules, arith}
use Rattle.std.proofs.lemmas.Grind.{common_steps}
use Rattle.expr_parser.specs.Syntax.{names, one_name}
use Rattle.parse_laws.specs.Parser.{many_from}
use Rattle.expr_parser.proofs.Turns.{one_more, no_more}
use Rattle.expr_parser.proofs.names.read_names.Goals as goal

pub returns-in_err-name : goal.returns-in_err-name
unfolding names many_from
returns-in_err-name c =
    let e = one_more (λ n. many_from (λ _. one_name c.args.text.now) n c.loop-turn.found c.loop-turn.signs) _ c.loop-turn._turn c.loop-turn-test.true in
    first_of (search rules, grind (arith, common_steps))

pub returns-in-None : goal.returns-in-None
unfolding names many_from
returns-in-None c =
    let e = one_more (λ n. many_from (λ _. one_name c.args.text.now) n c.loop-turn.found c.loop-turn.signs) _ c.loop-turn._turn c.loop-turn-test.true in
    first_of (search rules, grind (arith, common_steps))

pub loop-turn-preserved : goal.loop-turn-preserved
unfolding many_from
loop-turn-preserved c =
    let e = one_more (λ n. many_from (λ _. one_name c.args.text.now) n c.loop-turn.found c.loop-turn.signs) _ c.loop-turn._turn c.loop-turn-test.true in
    first_of (search rules, grind (arith, common_steps))

pub returns : goal.returns
unfolding names many_from
returns c =
    let e = no_more (λ n. many_from (λ _. one_name c.args.text.now) n c.loop-turn.found c.loop-turn.signs) _ c.loop-turn._turn c.loop-turn-test.false in
    first_of (search rules, grind (arith, common_steps))

pub loop-turn-init : goal.loop-turn-init
unfolding names
loop-turn-init c = first_of (search rules, grind (arith, common_steps))
