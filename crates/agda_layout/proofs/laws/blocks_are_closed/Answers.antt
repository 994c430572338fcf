use Rattle.agda_layout.proofs.Depths.{is_balanced}
use Rattle.agda_layout.proofs.laws.blocks_are_closed.Goals as goal

pub returns : goal.returns
returns c = is_balanced c.args.tokens.now
