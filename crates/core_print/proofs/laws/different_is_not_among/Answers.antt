use Rattle.core_print.proofs.Differing.{different_is_not_among}
use Rattle.core_print.proofs.laws.different_is_not_among.Goals as goal

pub returns : goal.returns
returns c = λ taken x. different_is_not_among taken x
