use Rattle.std.proofs.Common.{refl}
use Rattle.core_print.proofs.laws.arrows.Goals as goal

pub returns : goal.returns
returns c = (refl, refl, refl, refl, refl, refl, refl)
