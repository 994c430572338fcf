-- A tree gives at most one term.
use Rattle.core_rules.proofs.Run.Once as P
use Rattle.core_rules.proofs.laws.one_run.Goals as goal

pub returns : goal.returns
returns c = λ g T r es t u h k. P.one-run g h k
