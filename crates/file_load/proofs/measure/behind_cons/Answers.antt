use Rattle.std.proofs.Common.{◌∙◌, sym, rules, arith}
use Rattle.std.proofs.lemmas.Grind.{common_steps}
use Rattle.file_load.proofs.Sizing.{cons_end, cons_go_on, room_falls}
use Rattle.file_load.proofs.measure.behind_cons.Goals as goal

pub returns-in_err-left : goal.returns-in_err-left
returns-in_err-left c =
    let l = c.loop-con in
    let e = l.invariant.left ∙ cons_end c.args.pool.now l.left c.args.cons.now l.con-index c.con-item.result c.loop-con-test.true c.con-item.is (sym c.in_err-left.ensures) in
    first_of (search rules, grind (arith, common_steps))

pub loop-con-preserved : goal.loop-con-preserved
loop-con-preserved c =
    let l = c.loop-con in
    let falls = room_falls l.left c.in_ok-left.left _ (sym c.in_ok-left.ensures) in
    record {
      within = omega (arith, falls, l.invariant.within);
      left = l.invariant.left ∙ cons_go_on c.args.pool.now l.left c.args.cons.now l.con-index c.con-item.result c.loop-con-test.true c.con-item.is c.in_ok-left.left (sym c.in_ok-left.ensures);
    }
