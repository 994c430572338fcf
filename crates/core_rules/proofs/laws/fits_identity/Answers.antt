-- The variables of a well formed context fit it.
use Rattle.core_rules.proofs.Typing.Fitting.{fits-own}
use Rattle.core_rules.proofs.laws.fits_identity.Goals as goal

pub returns : goal.returns
returns c = λ g x s w. fits-own g s x w
