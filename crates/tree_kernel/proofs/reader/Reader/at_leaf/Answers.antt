use Rattle.std.proofs.Common.{refl}
use Rattle.std.proofs.lemmas.Result.{err_from_is_err_and}
use Rattle.kernel_rules.specs.Outcome.{goes_on}
use Rattle.kernel_rules.specs.Refusals.{IsAccepted}
use Rattle.kernel_rules.specs.TermReading.{CheckOf}
use Rattle.tree_kernel.specs.Jobs.{context_by}
use Rattle.tree_kernel.specs.Reader.{signature_of, term_of}
use Rattle.tree_kernel.proofs.Answering.{terms_first}
use Rattle.tree_kernel.proofs.reader.Reader.at_leaf.Goals as goal

pub returns-in_err-check-clause-is : goal.returns-in_err-check-clause-is
returns-in_err-check-clause-is c =
    let x = c.args.self.now in
    let n = c.args.node in
    let w = err_from_is_err_and c.from_residual.result c.from_residual.ensures.1 in
    rw (w.1, w.2) (terms_first c.check.new.pool
    (CheckOf (signature_of x) x.limits.fuel x.limits.depth (context_by (term_of x) n.context) (term_of x c.args.body) (term_of x n.ty)) (λ o. IsAccepted)
    c.in_err-check.field-0.0 c.in_err-check.ensures.answer)

pub returns-clause-is : goal.returns-clause-is
returns-clause-is c = goes_on tt c.in_ok-check.ensures.answer refl
