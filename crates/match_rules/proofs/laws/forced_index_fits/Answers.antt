-- The index decides.
use Rattle.match_rules.proofs.Cover.Vectors.{forced_index_fits}
use Rattle.match_rules.proofs.laws.forced_index_fits.Goals as goal

pub returns : goal.returns
returns c = λ ps n m x xs. forced_index_fits ps n m x xs
