use Rattle.std.proofs.Common.{◌≡◌, map, drop}
use Rattle.file_load.specs.Unbuilt as spec
use Rattle.file_load.specs.Unbuilt.{first_of}
use Rattle.file_load.proofs.unbuilt.in_decls.Given as goal

abbrev pub invariant-loop-decl : goal.invariant-loop-decl
invariant-loop-decl l = first_of (map spec.in_decl l.decls) ≡ first_of (map spec.in_decl (drop l.decl-index l.decls))
