use Rattle.std.proofs.Common.{◌≡◌, refl, rules, arith}
use Rattle.std.proofs.lemmas.Grind.{common_steps}
use Rattle.expr_parser.specs.Syntax.{expr, one_typed, more_typed, one_field, more_fields, one_arg, args, one_binder, binders}
use Rattle.parse_laws.specs.Parser.{many_from}
use Rattle.expr_parser.proofs.Turns.{one_more, no_more, deeper}
use Rattle.expr_parser.proofs.exprs.+expr.Goals as goal

pub read_typed-loop-turn-init : goal.read_typed-loop-turn-init
unfolding more_typed
read_typed-loop-turn-init t c = first_of (search rules, grind (arith, common_steps))

pub read_typed-returns-in_err-binder : goal.read_typed-returns-in_err-binder
unfolding more_typed many_from
read_typed-returns-in_err-binder t c =
    let e = one_more (λ n. many_from (λ _. one_typed c.args.text.now c.args.turns (expr c.args.text.now c.args.turns)) n c.loop-turn.found c.loop-turn.signs) _ c.loop-turn._turn c.loop-turn-test.true in
    first_of (search rules, grind (arith, common_steps))

pub read_typed-returns-in-None : goal.read_typed-returns-in-None
unfolding more_typed many_from
read_typed-returns-in-None t c =
    let e = one_more (λ n. many_from (λ _. one_typed c.args.text.now c.args.turns (expr c.args.text.now c.args.turns)) n c.loop-turn.found c.loop-turn.signs) _ c.loop-turn._turn c.loop-turn-test.true in
    first_of (search rules, grind (arith, common_steps))

pub read_typed-loop-turn-preserved : goal.read_typed-loop-turn-preserved
unfolding many_from
read_typed-loop-turn-preserved t c =
    let e = one_more (λ n. many_from (λ _. one_typed c.args.text.now c.args.turns (expr c.args.text.now c.args.turns)) n c.loop-turn.found c.loop-turn.signs) _ c.loop-turn._turn c.loop-turn-test.true in
    first_of (search rules, grind (arith, common_steps))

pub read_typed-returns : goal.read_typed-returns
unfolding more_typed many_from
read_typed-returns t c =
    let e = no_more (λ n. many_from (λ _. one_typed c.args.text.now c.args.turns (expr c.args.text.now c.args.turns)) n c.loop-turn.found c.loop-turn.signs) _ c.loop-turn._turn c.loop-turn-test.false in
    first_of (search rules, grind (arith, common_steps))

pub more_fields-loop-turn-init : goal.more_fields-loop-turn-init
unfolding more_fields
more_fields-loop-turn-init t c = first_of (search rules, grind (arith, common_steps))

pub more_fields-returns-in_err-field : goal.more_fields-returns-in_err-field
unfolding more_fields many_from
more_fields-returns-in_err-field t c =
    let e = one_more (λ n. many_from (λ _. one_field c.args.text.now c.args.turns (expr c.args.text.now c.args.turns)) n c.loop-turn.found c.loop-turn.signs) _ c.loop-turn._turn c.loop-turn-test.true in
    first_of (search rules, grind (arith, common_steps))

pub more_fields-returns-in-None : goal.more_fields-returns-in-None
unfolding more_fields many_from
more_fields-returns-in-None t c =
    let e = one_more (λ n. many_from (λ _. one_field c.args.text.now c.args.turns (expr c.args.text.now c.args.turns)) n c.loop-turn.found c.loop-turn.signs) _ c.loop-turn._turn c.loop-turn-test.true in
    first_of (search rules, grind (arith, common_steps))

pub more_fields-loop-turn-preserved : goal.more_fields-loop-turn-preserved
unfolding many_from
more_fields-loop-turn-preserved t c =
    let e = one_more (λ n. many_from (λ _. one_field c.args.text.now c.args.turns (expr c.args.text.now c.args.turns)) n c.loop-turn.found c.loop-turn.signs) _ c.loop-turn._turn c.loop-turn-test.true in
    first_of (search rules, grind (arith, common_steps))

pub more_fields-returns : goal.more_fields-returns
unfolding more_fields many_from
more_fields-returns t c =
    let e = no_more (λ n. many_from (λ _. one_field c.args.text.now c.args.turns (expr c.args.text.now c.args.turns)) n c.loop-turn.found c.loop-turn.signs) _ c.loop-turn._turn c.loop-turn-test.false in
    first_of (search rules, grind (arith, common_steps))

pub args-loop-turn-init : goal.args-loop-turn-init
unfolding args
args-loop-turn-init t c = first_of (search rules, grind (arith, common_steps))

pub args-returns-in_err-arg : goal.args-returns-in_err-arg
unfolding args many_from
args-returns-in_err-arg t c =
    let e = one_more (λ n. many_from (λ _. one_arg c.args.text.now c.args.turns (expr c.args.text.now c.args.turns)) n c.loop-turn.found c.loop-turn.signs) _ c.loop-turn._turn c.loop-turn-test.true in
    first_of (search rules, grind (arith, common_steps))

pub args-returns-in-None : goal.args-returns-in-None
unfolding args many_from
args-returns-in-None t c =
    let e = one_more (λ n. many_from (λ _. one_arg c.args.text.now c.args.turns (expr c.args.text.now c.args.turns)) n c.loop-turn.found c.loop-turn.signs) _ c.loop-turn._turn c.loop-turn-test.true in
    first_of (search rules, grind (arith, common_steps))

pub args-loop-turn-preserved : goal.args-loop-turn-preserved
unfolding many_from
args-loop-turn-preserved t c =
    let e = one_more (λ n. many_from (λ _. one_arg c.args.text.now c.args.turns (expr c.args.text.now c.args.turns)) n c.loop-turn.found c.loop-turn.signs) _ c.loop-turn._turn c.loop-turn-test.true in
    first_of (search rules, grind (arith, common_steps))

pub args-returns : goal.args-returns
unfolding args many_from
args-returns t c =
    let e = no_more (λ n. many_from (λ _. one_arg c.args.text.now c.args.turns (expr c.args.text.now c.args.turns)) n c.loop-turn.found c.loop-turn.signs) _ c.loop-turn._turn c.loop-turn-test.false in
    first_of (search rules, grind (arith, common_steps))

pub binders-loop-turn-init : goal.binders-loop-turn-init
unfolding binders
binders-loop-turn-init t c = first_of (search rules, grind (arith, common_steps))

pub binders-returns-in_err-binder : goal.binders-returns-in_err-binder
unfolding binders many_from
binders-returns-in_err-binder t c =
    let e = one_more (λ n. many_from (λ _. one_binder c.args.text.now c.args.turns (expr c.args.text.now c.args.turns) c.args.quantifier) n c.loop-turn.found c.loop-turn.signs) _ c.loop-turn._turn c.loop-turn-test.true in
    first_of (search rules, grind (arith, common_steps))

pub binders-returns-in-None : goal.binders-returns-in-None
unfolding binders many_from
binders-returns-in-None t c =
    let e = one_more (λ n. many_from (λ _. one_binder c.args.text.now c.args.turns (expr c.args.text.now c.args.turns) c.args.quantifier) n c.loop-turn.found c.loop-turn.signs) _ c.loop-turn._turn c.loop-turn-test.true in
    first_of (search rules, grind (arith, common_steps))

pub binders-loop-turn-preserved : goal.binders-loop-turn-preserved
unfolding many_from
binders-loop-turn-preserved t c =
    let e = one_more (λ n. many_from (λ _. one_binder c.args.text.now c.args.turns (expr c.args.text.now c.args.turns) c.args.quantifier) n c.loop-turn.found c.loop-turn.signs) _ c.loop-turn._turn c.loop-turn-test.true in
    first_of (search rules, grind (arith, common_steps))

pub binders-returns : goal.binders-returns
unfolding binders many_from
binders-returns t c =
    let e = no_more (λ n. many_from (λ _. one_binder c.args.text.now c.args.turns (expr c.args.text.now c.args.turns) c.args.quantifier) n c.loop-turn.found c.loop-turn.signs) _ c.loop-turn._turn c.loop-turn-test.false in
    first_of (search rules, grind (arith, common_steps))

pub read_expr-returns-then-turns-eq0 : goal.read_expr-returns-then-turns-eq0
unfolding expr
read_expr-returns-then-turns-eq0 t c = record { reads = λ _. let none : c.args.turns ≡ 0 = omega arith in rw (none, c.left.ensures.value) refl }

pub read_expr-returns : goal.read_expr-returns
unfolding expr
read_expr-returns t c = record { reads = rw (deeper (λ n. expr c.args.text.now n c.args.signs.now) c.args.turns (omega arith)) c.level.ensures }
