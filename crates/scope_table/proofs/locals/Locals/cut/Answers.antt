use Rattle.std.proofs.Common.{arith}
use Rattle.scope_table.proofs.Inside.{inside-drop}
use Rattle.scope_table.proofs.locals.Locals.cut.Goals as goal

pub loop-self-preserved : goal.loop-self-preserved
loop-self-preserved c = λ outer inside is.
    rw c.pop.ensures (inside-drop outer c.loop-self.self (c.loop-self.invariant outer inside is) (omega (arith, is, c.len.ensures, c.loop-self-test.true)))
