use Rattle.std.proofs.Common.{◌≡◌, ◌+◌, drop}
use Rattle.agda_layout.specs.Blocks.{steps}
use Rattle.agda_layout.specs.Views.{state_of}
use Rattle.agda_layout.proofs.layout.lay_out_from.Given as goal

abbrev pub invariant-loop-i : goal.invariant-loop-i
invariant-loop-i l = steps (state_of l.state) (l.from + l.i) (drop l.i l.tokens) ≡ steps (state_of l.initial.state) l.from l.tokens
