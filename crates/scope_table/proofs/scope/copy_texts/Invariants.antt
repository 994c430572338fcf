use Rattle.std.proofs.Common.{◌≡◌, take}
use Rattle.scope_table.proofs.scope.copy_texts.Given as goal

abbrev pub invariant-loop-text : goal.invariant-loop-text
invariant-loop-text l = l.found ≡ take l.text-index l.all
