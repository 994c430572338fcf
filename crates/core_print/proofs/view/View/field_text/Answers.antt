use Rattle.std.proofs.Common.{None, sym, arith}
use Rattle.core_print.specs.Views.{world_of}
use Rattle.core_print.proofs.Viewing.{field_is, no_field, field_at, past_fams}
use Rattle.core_print.proofs.view.View.field_text.Goals as goal

pub returns-then-number-fields : goal.returns-then-number-fields
returns-then-number-fields c =
    let w = world_of c.args.self.now in
    sym (field_is w c.args.field None (no_field w.signature c.args.field (omega (arith, c.if-number-fields.true, c.number.ensures, c.fields.ensures))))

pub returns-then-number-fams : goal.returns-then-number-fams
returns-then-number-fams c =
    let w = world_of c.args.self.now in
    sym (field_is w c.args.field None (field_at w.signature c.args.field c.field-fam.result.0 c.field-fam.result.1 None c.field-fam.ensures (past_fams w.signature c.field-fam.result.0 (omega (arith, c.if-number-fams.true, c.number-2.ensures, c.fams.ensures)))))
