use Rattle.kernel_rules.proofs.OneDecl.{one-decl}
use Rattle.kernel_rules.proofs.DeclOutcome.{decl-outcome}
use Rattle.tree_kernel.specs.Reading.{UnifiesAs}
use Rattle.tree_kernel.proofs.AtH.{one_answer, answers_all}
use Rattle.tree_kernel.proofs.laws.exactly_one_decl_outcome.Goals as goal

pub returns : goal.returns
returns c = λ g fuel depth d s.
    let r = decl-outcome (λ h. UnifiesAs h fuel depth) (λ h. answers_all h fuel depth) g fuel depth d s in
    (r.0, r.1, λ q y. one-decl (λ h. UnifiesAs h fuel depth) g fuel depth (λ h. one_answer h fuel depth) d q r.0 y r.1)
