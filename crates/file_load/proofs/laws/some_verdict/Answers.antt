use Rattle.file_load.proofs.Existing.{some_verdict}
use Rattle.file_load.proofs.laws.some_verdict.Goals as goal

pub returns : goal.returns
returns c = some_verdict
