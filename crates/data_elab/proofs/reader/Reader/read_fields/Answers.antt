use Rattle.std.proofs.Common.{rules, ◌≡◌, length, drop}
use Rattle.data_rules.specs.Families.{lines_of}
use Rattle.data_rules.specs.Rules.{field_lines}
use Rattle.data_elab.specs.Constructors.{lines_in}
use Rattle.data_elab.specs.Reader.{values_of}
use Rattle.data_elab.proofs.FieldsRead.{fields-answer, slice-rest}
use Rattle.data_elab.proofs.reader.Reader.read_fields.Goals as goal

pub returns-clause-is : goal.returns-clause-is
returns-clause-is c =
    let x = c.args.self.now in
    let y = c.enter_fields.new.self in
    let start = c.len-start.result in
    let count : start ≡ length x.context.now.items = search rules in
    let es = c.in_ok-fields.fields.items in
    let items = c.in_ok-fields.ensures.items in
    let slice = c.as_slice.ensures.value in
    let is : es ≡ drop start y.context.now.items = slice-rest start c.as_slice.result.now y.context.now.items es slice items in
    fields-answer (field_lines c.args.level (values_of x) (lines_in x (lines_of c.args.items.now))) c.in_ok-enter_fields.ensures.is start count es is
