use Rattle.agda_layout.proofs.Orders.{keeps_tokens}
use Rattle.agda_layout.proofs.laws.tokens_are_kept.Goals as goal

pub returns : goal.returns
returns c = keeps_tokens c.args.tokens.now
