use Rattle.std.proofs.Common.{refl}
use Rattle.core_print.proofs.laws.left_out.Goals as goal

pub returns : goal.returns
returns c = (refl, refl, refl, refl)
