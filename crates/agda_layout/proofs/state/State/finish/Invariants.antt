use Rattle.std.proofs.Common.{◌≡◌, ◌++◌, length, map, reverse}
use Rattle.agda_layout.specs.declared.laid.Laid.TheVariants.{Close}
use Rattle.agda_layout.proofs.state.State.finish.Given as goal

abbrev pub invariant-closing : goal.invariant-closing
invariant-closing l = l.self.out.items ++ map (λ _. Close l.last) (reverse l.self.stack.items) ≡ l.initial.self.out.items ++ map (λ _. Close l.last) (reverse l.initial.self.stack.items)

abbrev pub decreases-closing : goal.decreases-closing
decreases-closing l = length l.self.stack.items
