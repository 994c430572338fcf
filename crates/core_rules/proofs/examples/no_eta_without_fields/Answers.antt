-- The derivation.
use Rattle.core_rules.proofs.Derivations.{no_eta_without_fields as derivation}
use Rattle.core_rules.proofs.examples.no_eta_without_fields.Goals as goal

pub returns : goal.returns
returns c = λ g k d decl r e f is. derivation g k d decl r e f is
