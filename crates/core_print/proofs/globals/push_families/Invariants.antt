use Rattle.std.proofs.Common.{◌≡◌, ◌++◌, take}
use Rattle.core_rules.specs.Signature.{fams}
use Rattle.core_print.specs.Names.{families_names}
use Rattle.core_print.proofs.globals.push_families.Given as goal

abbrev pub invariant-loop-fam : goal.invariant-loop-fam
invariant-loop-fam l = l.names.items ≡ l.fn.names.items ++ families_names (take l.fam (fams l.sig))
