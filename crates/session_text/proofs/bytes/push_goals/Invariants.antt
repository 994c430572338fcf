use Rattle.std.proofs.Common.{◌≡◌, ◌++◌, ◌-◌, ◌≤◌, length, drop}
use Rattle.std.specs.Prelude.{string_bytes}
use Rattle.session_text.specs.Lines.{goal_lines}
use Rattle.session_text.proofs.bytes.push_goals.Given as goal

abbrev pub invariant-loop-n : goal.invariant-loop-n
invariant-loop-n l = record {
  within : l.n ≤ length l.goals;
  left : string_bytes l.fn.text ++ goal_lines 0 l.goals ≡ string_bytes l.text ++ goal_lines l.n (drop l.n l.goals);
}

abbrev pub decreases-loop-n : goal.decreases-loop-n
decreases-loop-n l = length l.goals - l.n
