use Rattle.std.proofs.Common.{◌≡◌, ◌++◌, drop}
use Rattle.agda_layout.specs.Blocks.{alone}
use Rattle.agda_layout.proofs.layout.alone.Given as goal

abbrev pub invariant-loop-i : goal.invariant-loop-i
invariant-loop-i l = l.out.items ++ alone l.i (drop l.i l.tokens) ≡ alone 0 l.tokens
