-- A fitting environment fits where entries are put into the context.
use Rattle.core_rules.proofs.Typing.Fitting.{fits-inserted}
use Rattle.core_rules.proofs.laws.fits_weakened.Goals as goal

pub returns : goal.returns
returns c = λ g s inner new x es r h. fits-inserted g s inner new x h
