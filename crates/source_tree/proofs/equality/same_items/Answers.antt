use Rattle.std.proofs.Common.{refl, arith}
use Rattle.source_tree.proofs.Lists.{same_throughout}
use Rattle.source_tree.proofs.equality.same_items.Goals as goal

pub returns : goal.returns
returns g c = (λ _. same_throughout c.args.items.now c.args.others.now c.loop-i.i c.loop-i.invariant (omega arith) (omega arith), λ _. refl)
