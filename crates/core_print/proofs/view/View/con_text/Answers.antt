use Rattle.std.proofs.Common.{None, sym, arith}
use Rattle.core_print.specs.Views.{world_of}
use Rattle.core_print.proofs.Viewing.{con_is, no_con, con_at, past_fams}
use Rattle.core_print.proofs.view.View.con_text.Goals as goal

pub returns-then-number-cons : goal.returns-then-number-cons
returns-then-number-cons c =
    let w = world_of c.args.self.now in
    sym (con_is w c.args.con None (no_con w.signature c.args.con (omega (arith, c.if-number-cons.true, c.number.ensures, c.cons.ensures))))

pub returns-then-number-fams : goal.returns-then-number-fams
returns-then-number-fams c =
    let w = world_of c.args.self.now in
    sym (con_is w c.args.con None (con_at w.signature c.args.con c.con-fam.result.0 c.con-fam.result.1 None c.con-fam.ensures (past_fams w.signature c.con-fam.result.0 (omega (arith, c.if-number-fams.true, c.number-2.ensures, c.fams.ensures)))))
