use Rattle.std.proofs.Common.{◌≡◌, ◌+◌, length, arith, rules}
use Rattle.std.proofs.lemmas.Grind.{common_steps}
use Rattle.agda_grammar.specs.Nesting.{origin, shallow}
use Rattle.expr_parser.proofs.Verdict.{whole_left, whole_settles, front_left, front_settles}
use Rattle.agda_grammar.specs.Declarations.{file_then, file_tree}
use Rattle.agda_parser.specs.DeclarationSyntax.{whole_file}
use Rattle.agda_parser.proofs.DeclarationRules.{whole_file_good}
use Rattle.agda_parser.proofs.DeclarationComplete.{file_size, whole_file_read}
use Rattle.expr_parser.proofs.Whole.{none_deep}
use Rattle.agda_parser.proofs.Whole.{file_ends}
use Rattle.agda_parser.proofs.one_file.read.Goals as goal

pub settle_front-requires-clause-within : goal.settle_front-requires-clause-within
settle_front-requires-clause-within c =
    let more : c.in-Some.turns ≡ length c.args.signs.now + 1 = first_of (search rules, grind (arith, common_steps)) in
    front_left file_then (file_tree c.args.text.now) (whole_file c.args.text.now) file_size (whole_file_good c.args.text.now) (file_ends c.args.text.now) (whole_file_read c.args.text.now) c.args.text.now c.in-Some.turns c.args.signs.now c.in_ok-count.count c.check_file-found.result (omega arith) (omega (arith, more)) c.check_file-found.ensures

pub settle_whole-requires-clause-within : goal.settle_whole-requires-clause-within
settle_whole-requires-clause-within c =
    let more : c.in-Some.turns ≡ length c.args.signs.now + 1 = first_of (search rules, grind (arith, common_steps)) in
    whole_left file_then (file_tree c.args.text.now) (whole_file c.args.text.now) file_size (whole_file_good c.args.text.now) (file_ends c.args.text.now) (whole_file_read c.args.text.now) c.args.text.now c.in-Some.turns c.args.signs.now c.read_file-found.result (omega (arith, more)) c.read_file-found.ensures

pub returns-then-count-signs : goal.returns-then-count-signs
returns-then-count-signs c =
    let more : c.in-Some.turns ≡ length c.args.signs.now + 1 = first_of (search rules, grind (arith, common_steps)) in
    let deep : shallow origin c.args.signs.now ≡ c.in_ok-count.count = first_of (search rules, grind (arith, common_steps)) in
    rw c.settle_front.ensures.answer
    (front_settles file_then (file_tree c.args.text.now) (whole_file c.args.text.now) file_size (whole_file_good c.args.text.now) (file_ends c.args.text.now) (whole_file_read c.args.text.now) c.args.text.now c.in-Some.turns c.args.signs.now c.in_ok-count.count c.check_file-found.result deep (omega arith) (omega (arith, more)) c.check_file-found.ensures)

pub returns-else-count-signs : goal.returns-else-count-signs
returns-else-count-signs c =
    let more : c.in-Some.turns ≡ length c.args.signs.now + 1 = first_of (search rules, grind (arith, common_steps)) in
    rw c.settle_whole.ensures.answer
    (whole_settles file_then (file_tree c.args.text.now) (whole_file c.args.text.now) file_size (whole_file_good c.args.text.now) (file_ends c.args.text.now) (whole_file_read c.args.text.now) c.args.text.now c.in-Some.turns c.args.signs.now c.read_file-found.result (omega (arith, more)) (omega (arith, none_deep origin c.args.signs.now, c.in_ok-count.ensures.count)) c.read_file-found.ensures)
