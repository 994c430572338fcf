use Rattle.file_load.proofs.Unique.{one_verdict}
use Rattle.file_load.proofs.laws.one_verdict.Goals as goal

pub returns : goal.returns
returns c = one_verdict
