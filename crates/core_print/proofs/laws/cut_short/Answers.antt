use Rattle.core_print.proofs.Differing.{cut_short}
use Rattle.core_print.proofs.laws.cut_short.Goals as goal

pub returns : goal.returns
returns c = cut_short
