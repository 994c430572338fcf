use Rattle.std.proofs.Common.{◌≡◌, ◌++◌}
use Rattle.core_terms.specs.Signature.{places_of}
use Rattle.core_terms.proofs.signature.put_places.Given as goal

abbrev pub invariant-loop-i : goal.invariant-loop-i
invariant-loop-i l = l.places.items ≡ l.initial.places.items ++ places_of l.fam l.i
