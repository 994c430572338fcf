use Rattle.std.proofs.Common.{◌≡◌, map, drop}
use Rattle.file_load.specs.Unbuilt as spec
use Rattle.file_load.specs.Unbuilt.{first_of}
use Rattle.file_load.proofs.unbuilt.in_signatures.Given as goal

abbrev pub invariant-loop-signature : goal.invariant-loop-signature
invariant-loop-signature l = first_of (map spec.in_signature l.signatures) ≡ first_of (map spec.in_signature (drop l.signature-index l.signatures))
