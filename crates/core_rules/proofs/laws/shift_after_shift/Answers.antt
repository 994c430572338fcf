-- A shift that begins among the variables that another has made is one with it.
use Rattle.core_rules.proofs.Substitution.Lifted.{shift-shift}
use Rattle.core_rules.proofs.laws.shift_after_shift.Goals as goal

pub returns : goal.returns
returns c = λ t from m n to h k. shift-shift t from m n to h k
