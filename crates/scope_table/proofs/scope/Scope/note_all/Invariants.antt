use Rattle.std.proofs.Common.{◌≡◌, map, length}
use Rattle.scope_table.specs.Known.{with_names, Grows, with_texts}
use Rattle.scope_table.proofs.scope.Scope.note_all.Given as goal

abbrev pub invariant-loop-left : goal.invariant-loop-left
invariant-loop-left l = record {
  grows : Grows l.fn.self l.self;
  rest : with_names l.fn.self (with_texts l.fn.self.names (map (λ t. t.now) l.all)) ≡ with_names l.self (with_texts l.self.names (map (λ t. t.now) l.left));
}

abbrev pub decreases-loop-left : goal.decreases-loop-left
decreases-loop-left l = length l.left
