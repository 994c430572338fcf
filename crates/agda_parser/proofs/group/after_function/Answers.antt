use Rattle.std.proofs.Common.{rules, ◌≡◌, false}
use Rattle.agda_grammar.specs.Groups.{is_of}
use Rattle.agda_parser.proofs.GroupSteps.{parted}
use Rattle.agda_parser.proofs.group.after_function.Goals as goal

pub returns-in_ok-push-2 : goal.returns-in_ok-push-2
returns-in_ok-push-2 c =
    let other : is_of c.args.signature.names c.args.clause ≡ false = search rules in
    parted c.args.done.now c.push-else-is_of.new.self c.args.place c.args.signature c.args.clauses c.args.clause other c.in_ok-push-2.ensures.ok
