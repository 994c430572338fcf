use Rattle.file_load.proofs.Unique.{one_signature}
use Rattle.file_load.proofs.laws.one_signature.Goals as goal

pub returns : goal.returns
returns c = one_signature
