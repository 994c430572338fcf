use Rattle.std.proofs.Common.{sym, ◌∙◌}
use Rattle.term_pool.proofs.Shifts.{AreShifted-puts}
use Rattle.term_pool.proofs.shifting.lifted.Goals as goal

pub returns-in-Some-clause-is : goal.returns-in-Some-clause-is
returns-in-Some-clause-is c = (c.requires.shifted.at c.args.t c.args.under c.in-Some.made (sym c.get.ensures ∙ c.in-Some.is)).1

pub returns-clause-shifted : goal.returns-clause-shifted
returns-clause-shifted c = AreShifted-puts c.shift.ensures.extends c.requires.shifted c.requires.within c.in_ok-made.ensures.is c.in_ok-put.ensures
