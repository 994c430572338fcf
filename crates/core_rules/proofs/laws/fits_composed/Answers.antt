-- A fitting environment under another one fits.
use Rattle.core_rules.proofs.Typing.Fitting.{fits-under}
use Rattle.core_rules.proofs.Typing.Closed.{have-shape}
use Rattle.core_rules.proofs.laws.fits_composed.Goals as goal

pub returns : goal.returns
returns c = λ g s x d es r q h k. fits-under g s (have-shape g s) h k
