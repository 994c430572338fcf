use Rattle.std.proofs.Common.{◌≡◌, drop}
use Rattle.file_load.specs.Lines.{Judgement, LinesOf}
use Rattle.file_load.specs.Judged.{Agrees, declared}
use Rattle.file_load.proofs.lines.declare_lines.Given as goal

abbrev pub invariant-loop-line : goal.invariant-loop-line
invariant-loop-line l = record {
  agrees : Agrees l.core;
  scope : l.core.scope ≡ l.fn.core.scope;
  left : (j : Judgement) → LinesOf l.limits.fuel l.limits.depth (declared l.core) (drop l.line-index l.lines) j → LinesOf l.limits.fuel l.limits.depth (declared l.fn.core) l.lines j;
}
