use Rattle.std.proofs.Common.{refl, sym, ◌∙◌}
use Rattle.core_rules.specs.UnifierAnswers.{answers}
use Rattle.kernel_rules.proofs.OneDecl.{one-decl}
use Rattle.kernel_rules.proofs.DeclOutcome.{decl-outcome}
use Rattle.kernel_rules.proofs.decl_laws.exactly_one_decl_outcome.Goals as goal

pub returns : goal.returns
returns c = λ u g fuel depth d s.
    let r = decl-outcome (λ g. answers (u g)) (λ h c es. (u h c es, refl)) g fuel depth d s in
    (r.0, r.1, λ q y. one-decl (λ g. answers (u g)) g fuel depth (λ h c es v w d e. d ∙ sym e) d q r.0 y r.1)
