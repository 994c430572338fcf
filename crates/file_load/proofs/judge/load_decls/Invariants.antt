use Rattle.std.proofs.Common.{drop}
use Rattle.file_load.specs.Load.{Declares, Outcome}
use Rattle.file_load.specs.Judged.{Agrees, declared}
use Rattle.file_load.proofs.judge.load_decls.Given as goal

abbrev pub invariant-loop-decl : goal.invariant-loop-decl
invariant-loop-decl l = record {
  agrees : Agrees l.core;
  left : (result : Outcome) → Declares l.limits.fuel l.limits.depth l.core.scope (declared l.core) (drop l.decl-index l.decls) result → Declares l.limits.fuel l.limits.depth l.fn.core.scope (declared l.fn.core) l.decls result;
}
