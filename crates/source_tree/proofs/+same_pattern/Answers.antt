use Rattle.std.proofs.Common.{refl, arith}
use Rattle.source_tree.proofs.Lists.{same_throughout}
use Rattle.source_tree.proofs.+same_pattern.Goals as goal

pub equality::same_patterns-returns : goal.equality::same_patterns-returns
equality::same_patterns-returns t c = (λ _. same_throughout c.args.patterns.now c.args.others.now c.loop-i.i c.loop-i.invariant (omega arith) (omega arith), λ _. refl)
