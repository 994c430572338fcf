-- Two other shifts pass each other.
use Rattle.core_rules.proofs.Substitution.Exchange.{shift-shift_swap}
use Rattle.core_rules.proofs.laws.shifts_exchange.Goals as goal

pub returns : goal.returns
returns c = λ t from by to at h. shift-shift_swap t from by to at h
