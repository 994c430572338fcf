use Rattle.std.proofs.Common.{◌≡◌, ◌∷◌, ◌-◌, length, take, drop, ap}
use Rattle.std.proofs.lemmas.Result.{err_from_is_err_and}
use Rattle.conversion.proofs.Slices.{unrolled, none_within}
use Rattle.data_rules.specs.Rules.{field_lines}
use Rattle.data_elab.specs.Constructors.{lines_in}
use Rattle.data_elab.specs.Reader.{values_of}
use Rattle.data_elab.proofs.Kept.{Grows-trans}
use Rattle.data_elab.proofs.FieldsRead.{line-entered, line-not_entered, lines-entered}
use Rattle.data_elab.proofs.reader.Reader.enter_block.Goals as goal

pub returns-in_err-enter_field-clause-is : goal.returns-in_err-enter_field-clause-is
returns-in_err-enter_field-clause-is c =
    let i = c.loop-left.invariant in
    let x = c.args.self.now in
    let left = c.loop-left.left.now in
    let s = c.line-item.result in
    let more = take (length left - 1) (drop 1 left) in
    let first : left ≡ s ∷ more = unrolled left s c.in-len1-up.len_at_least c.line-item.is in
    let all = field_lines c.args.level (values_of x) (lines_in x c.args.lines.now) in
    let r = err_from_is_err_and c.from_residual.result c.from_residual.ensures.1 in
    rw (r.1, r.2) (line-not_entered c.requires.ready i.grows c.args.level all left more s first i.read c.enter_field.new.self.pool.now c.in_err-enter_field.field-0.0 c.in_err-enter_field.ensures.is)

pub loop-left-preserved : goal.loop-left-preserved
loop-left-preserved c =
    let i = c.loop-left.invariant in
    let x = c.args.self.now in
    let left = c.loop-left.left.now in
    let s = c.line-item.result in
    let more = take (length left - 1) (drop 1 left) in
    let first : left ≡ s ∷ more = unrolled left s c.in-len1-up.len_at_least c.line-item.is in
    let all = field_lines c.args.level (values_of x) (lines_in x c.args.lines.now) in
    let h = c.in_ok-enter_field.ensures in
    record { grows = Grows-trans i.grows h.grows; read = line-entered c.requires.ready i.grows c.args.level all left more s first i.read h.is }

pub returns-clause-is : goal.returns-clause-is
returns-clause-is c =
    let x = c.args.self.now in
    let left = c.loop-left.left.now in
    lines-entered c.args.level (lines_in x left) (field_lines c.args.level (values_of x) (lines_in x c.args.lines.now)) (ap (lines_in x) (none_within left c.in_default.len_below)) c.loop-left.invariant.read
