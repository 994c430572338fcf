use Rattle.std.proofs.Common.{◌≡◌, length, reverse}
use Rattle.agda_layout.specs.Blocks.{closed}
use Rattle.agda_layout.proofs.state.close.Given as goal

abbrev pub invariant-closing : goal.invariant-closing
invariant-closing l = closed l.pos l.out.items (reverse l.stack.items) ≡ closed l.pos l.initial.out.items (reverse l.initial.stack.items)

abbrev pub decreases-closing : goal.decreases-closing
decreases-closing l = length l.stack.items
