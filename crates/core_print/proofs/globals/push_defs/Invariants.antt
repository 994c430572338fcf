use Rattle.std.proofs.Common.{◌≡◌, ◌++◌, map, take}
use Rattle.core_rules.specs.Signature.{defs, decl_name}
use Rattle.core_print.proofs.globals.push_defs.Given as goal

abbrev pub invariant-loop-def : goal.invariant-loop-def
invariant-loop-def l = l.names.items ≡ l.fn.names.items ++ map decl_name (take l.def (defs l.sig))
