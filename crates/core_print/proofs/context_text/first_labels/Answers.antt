use Rattle.std.proofs.Common.{arith}
use Rattle.core_print.proofs.Contexts.{first_names}
use Rattle.core_print.proofs.context_text.first_labels.Goals as goal

pub returns : goal.returns
returns c = λ ns. first_names ns c.args.labels.now c.args.count (omega arith)
