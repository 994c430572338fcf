use Rattle.std.proofs.Common.{◌≡◌}
use Rattle.core_rules.specs.Signature.{numbers}
use Rattle.core_terms.proofs.signature.con_ids.Given as goal

abbrev pub invariant-loop-i : goal.invariant-loop-i
invariant-loop-i l = l.ids.items ≡ numbers l.first l.i
