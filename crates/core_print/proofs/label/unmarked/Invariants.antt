use Rattle.std.proofs.Common.{◌≡◌, ℕ, length, get_or, false}
use Rattle.core_print.proofs.label.unmarked.Given as goal

abbrev pub invariant-loop-place : goal.invariant-loop-place
invariant-loop-place l = record {
  length : length l.marks.items ≡ l._place;
  unset : (k : ℕ) → get_or l.marks.items k false ≡ false;
}
