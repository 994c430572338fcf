-- Fitting is kept under convertible contexts.
use Rattle.core_rules.proofs.Typing.Fitting.{fits-converted}
use Rattle.core_rules.proofs.laws.fits_of_convertible_context.Goals as goal

pub returns : goal.returns
returns c = λ g x d es r m h. fits-converted g m h
