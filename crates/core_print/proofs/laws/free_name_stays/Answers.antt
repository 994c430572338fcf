use Rattle.core_print.proofs.Differing.{free_name_stays}
use Rattle.core_print.proofs.laws.free_name_stays.Goals as goal

pub returns : goal.returns
returns c = λ taken x e. free_name_stays taken x e
