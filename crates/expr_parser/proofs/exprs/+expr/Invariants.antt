use Rattle.std.proofs.Common.{◌≡◌, ◌+◌, ◌*◌, ◌-◌, []}
use Rattle.expr_parser.specs.Syntax.{expr, one_typed, more_typed, one_field, more_fields, one_arg, args, one_binder, binders}
use Rattle.parse_laws.specs.Parser.{many_from}
use Rattle.expr_parser.proofs.exprs.+expr.Given as goal

abbrev pub decreases-typed_from : goal.decreases-typed_from
decreases-typed_from l = 20 * l.turns + 1

abbrev pub decreases-typed_after : goal.decreases-typed_after
decreases-typed_after l = 20 * l.turns + 2

abbrev pub decreases-braced_from : goal.decreases-braced_from
decreases-braced_from l = 20 * l.turns + 2

abbrev pub decreases-one_typed : goal.decreases-one_typed
decreases-one_typed l = 20 * l.turns + 3

abbrev pub decreases-read_typed : goal.decreases-read_typed
decreases-read_typed l = 20 * l.turns + 4

abbrev pub decreases-pi_from : goal.decreases-pi_from
decreases-pi_from l = 20 * l.turns + 5

abbrev pub decreases-paren_after : goal.decreases-paren_after
decreases-paren_after l = 20 * l.turns + 1

abbrev pub decreases-field : goal.decreases-field
decreases-field l = 20 * l.turns + 1

abbrev pub decreases-one_field : goal.decreases-one_field
decreases-one_field l = 20 * l.turns + 2

abbrev pub decreases-more_fields : goal.decreases-more_fields
decreases-more_fields l = 20 * l.turns + 3

abbrev pub decreases-fields : goal.decreases-fields
decreases-fields l = 20 * l.turns + 4

abbrev pub decreases-record_atom : goal.decreases-record_atom
decreases-record_atom l = 20 * l.turns + 5

abbrev pub decreases-simple_atom : goal.decreases-simple_atom
decreases-simple_atom l = 20 * l.turns + 6

abbrev pub decreases-braced_arg : goal.decreases-braced_arg
decreases-braced_arg l = 20 * l.turns + 1

abbrev pub decreases-one_arg : goal.decreases-one_arg
decreases-one_arg l = 20 * l.turns + 7

abbrev pub decreases-args : goal.decreases-args
decreases-args l = 20 * l.turns + 8

abbrev pub decreases-arrow_tail : goal.decreases-arrow_tail
decreases-arrow_tail l = 20 * l.turns + 1

abbrev pub decreases-app_from : goal.decreases-app_from
decreases-app_from l = 20 * l.turns + 9

abbrev pub decreases-after_paren : goal.decreases-after_paren
decreases-after_paren l = 20 * l.turns + 10

abbrev pub decreases-bound : goal.decreases-bound
decreases-bound l = 20 * l.turns + 3

abbrev pub decreases-binder : goal.decreases-binder
decreases-binder l = 20 * l.turns + 4

abbrev pub decreases-one_binder : goal.decreases-one_binder
decreases-one_binder l = 20 * l.turns + 5

abbrev pub decreases-binders : goal.decreases-binders
decreases-binders l = 20 * l.turns + 6

abbrev pub decreases-quantified : goal.decreases-quantified
decreases-quantified l = 20 * l.turns + 7

abbrev pub decreases-level : goal.decreases-level
decreases-level l = 20 * l.turns + 11

abbrev pub decreases-read_expr : goal.decreases-read_expr
decreases-read_expr l = 20 * l.turns + 0

abbrev pub invariant-read_typed-loop-turn : goal.invariant-read_typed-loop-turn
invariant-read_typed-loop-turn l = more_typed l.text l.turns (expr l.text l.turns) l.fn.found l.fn.signs ≡ many_from (λ _. one_typed l.text l.turns (expr l.text l.turns)) (l.turns - l._turn) l.found l.signs

abbrev pub invariant-more_fields-loop-turn : goal.invariant-more_fields-loop-turn
invariant-more_fields-loop-turn l = more_fields l.text l.turns (expr l.text l.turns) l.fn.found l.fn.signs ≡ many_from (λ _. one_field l.text l.turns (expr l.text l.turns)) (l.turns - l._turn) l.found l.signs

abbrev pub invariant-args-loop-turn : goal.invariant-args-loop-turn
invariant-args-loop-turn l = args l.text l.turns (expr l.text l.turns) [] l.fn.signs ≡ many_from (λ _. one_arg l.text l.turns (expr l.text l.turns)) (l.turns - l._turn) l.found l.signs

abbrev pub invariant-binders-loop-turn : goal.invariant-binders-loop-turn
invariant-binders-loop-turn l = binders l.text l.turns (expr l.text l.turns) l.quantifier l.fn.found l.fn.signs ≡ many_from (λ _. one_binder l.text l.turns (expr l.text l.turns) l.quantifier) (l.turns - l._turn) l.found l.signs
