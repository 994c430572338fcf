use Rattle.core_terms.specs.Signature.{Stands}
use Rattle.case_terms.proofs.declared.signature_of.Given as goal

abbrev pub invariant-loop-decl : goal.invariant-loop-decl
invariant-loop-decl l = Stands l.pool l.sig
