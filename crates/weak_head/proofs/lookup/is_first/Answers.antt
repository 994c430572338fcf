use Rattle.std.proofs.Common.{arith}
use Rattle.weak_head.proofs.Lookups.{no_con, first_none, first_other, first_same}
use Rattle.weak_head.proofs.lookup.is_first.Goals as goal

pub returns-then-number-cons : goal.returns-then-number-cons
returns-then-number-cons c = λ p. first_none p c.args.sig.now c.args.con c.args.fam (no_con c.args.sig.now c.args.con (omega (arith, c.if-number-cons.true, c.number.ensures, c.cons.ensures)))

pub returns-then-number : goal.returns-then-number
returns-then-number c = λ p. first_other p c.args.sig.now c.args.con c.args.fam c.con-of.result.0 c.con-of.result.1 c.con-of.ensures (omega (arith, c.if-number.true, c.number-2.ensures, c.number-3.ensures))

pub returns : goal.returns
returns c = λ p. first_same p c.args.sig.now c.args.con c.args.fam c.con-of.result.0 c.con-of.result.1 c.con-of.ensures (omega (arith, c.if-number.false, c.number-2.ensures, c.number-3.ensures))
