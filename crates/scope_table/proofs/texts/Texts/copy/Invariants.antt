use Rattle.std.proofs.Common.{◌≡◌, take}
use Rattle.scope_table.proofs.texts.Texts.copy.Given as goal

abbrev pub invariant-loop-at : goal.invariant-loop-at
invariant-loop-at l = l.found ≡ take l.at l.self
