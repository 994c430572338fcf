use Rattle.std.proofs.Common.{◌≡◌, length}
use Rattle.case_terms.specs.Known.{AreMarked, IsOver}
use Rattle.case_terms.proofs.ids.marked.Given as goal

abbrev pub invariant-loop-number : goal.invariant-loop-number
invariant-loop-number l = record {
  over : IsOver l.pool l.sig l.fams l.ids;
  marked : AreMarked l.ids;
  count : length l.ids.marks.items ≡ l.number;
}
