use Rattle.std.proofs.Common.{◌≡◌, rules, true}
use Rattle.command_line.specs.Number.{is_number}
use Rattle.command_line.proofs.Numerals.{too_large}
use Rattle.command_line.proofs.number.number_of.Goals as goal

pub returns-in-Err : goal.returns-in-Err
returns-in-Err c =
    let numeral : is_number c.args.text.now ≡ true = search rules in
    too_large c.args.text.now c.in-Err.field-0 numeral c.in-Err.ensures.value.0
