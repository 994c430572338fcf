use Rattle.std.proofs.Common.{◌≡◌, drop}
use Rattle.agda_grammar.specs.Declarations.{last_signature}
use Rattle.agda_parser.proofs.decls.last_signature.Given as goal

abbrev pub invariant-loop-signature : goal.invariant-loop-signature
invariant-loop-signature l = last_signature l.last (drop l.signature-index l.signatures) ≡ last_signature l.fn.place l.signatures
