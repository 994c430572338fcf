use Rattle.std.proofs.Common.{◌≡◌, [], ap, subst}
use Rattle.std.proofs.lemmas.Result.{err_from_is_err_and}
use Rattle.kernel_rules.specs.Outcome.{Refuses}
use Rattle.core_rules.specs.Mapped.{telescope_map}
use Rattle.data_rules.specs.Rules.{inside, params}
use Rattle.written_rules.specs.Expressions.{expr_meaning}
use Rattle.data_elab.specs.Answers.{RefusedBy}
use Rattle.data_elab.specs.Params.{binders_in}
use Rattle.data_elab.specs.Reader.{Read, context_of, over, signature_of, term_of}
use Rattle.data_elab.proofs.Indices.{heading-no_param, heading-answers}
use Rattle.data_elab.proofs.reader.Reader.read_heading.Goals as goal

pub returns-in_err-enter_params-clause-is : goal.returns-in_err-enter_params-clause-is
returns-in_err-enter_params-clause-is c =
    let x = c.args.self.now in
    let q = c.enter_params.new.self.pool.now in
    let e = c.in_err-enter_params.field-0.0 in
    let empty : context_of x ≡ [] = ap (telescope_map (term_of x)) c.requires.empty in
    let h = subst (λ cs. RefusedBy q (λ r. Read (over x) (params (binders_in x c.args.binders.now) (inside cs [])) (Refuses r)) e) empty c.in_err-enter_params.ensures.is in
    let r = err_from_is_err_and c.from_residual.result c.from_residual.ensures.1 in
    rw (r.1, r.2) (heading-no_param (over x) c.args.name c.args.room (binders_in x c.args.binders.now) (expr_meaning (signature_of x) c.args.ty.now) q e h)

pub returns-clause-is : goal.returns-clause-is
returns-clause-is c =
    let x = c.args.self.now in
    let i = c.in_ok-enter_params.ensures in
    let empty : context_of x ≡ [] = ap (telescope_map (term_of x)) c.requires.empty in
    heading-answers c.requires.ready i.grows empty c.args.name c.args.room c.args.binders.now c.args.ty.now i.is c.read_indices.new.self.pool.now c.read_indices.result c.read_indices.ensures.is
