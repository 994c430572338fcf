use Rattle.std.proofs.Common.{ℕ, List, [], subst, ◌∙◌}
use Rattle.std.proofs.lemmas.Result.{err_from_is_err_and}
use Rattle.core_rules.specs.Signature.{Entry}
use Rattle.term_pool.specs.Pool.{tree}
use Rattle.core_terms.specs.Signature.{signature_in}
use Rattle.kernel_rules.specs.Outcome.{Gives, Refuses}
use Rattle.kernel_rules.specs.TermReading.{IsTypeOf}
use Rattle.core_kernel.specs.Answers.{RefusedBy}
use Rattle.core_kernel.specs.Checker.{context_in}
use Rattle.tree_kernel.proofs.Declaring.{type_refused}
use Rattle.tree_kernel.proofs.decl.check_type.Goals as goal

pub returns-in_err-is_type-clause-is : goal.returns-in_err-is_type-clause-is
returns-in_err-is_type-clause-is c =
    let p = c.args.pool.now in
    let q = c.is_type.new.pool in
    let g = signature_in p c.args.sig.now in
    let fuel = c.args.limits.fuel in
    let depth = c.args.limits.depth in
    let w = err_from_is_err_and c.from_residual.result c.from_residual.ensures.1 in
    let e = c.in_err-is_type.field-0.0 in
    let h = subst (λ (es : List (Entry ℕ)). RefusedBy q (λ r. IsTypeOf g fuel depth (context_in p es) (tree p c.args.ty) (Refuses r)) e)
    (c.from_vec.ensures ∙ c.new.ensures.items) c.in_err-is_type.ensures.answer in
    rw (w.1, w.2) (type_refused q (IsTypeOf g fuel depth [] (tree p c.args.ty)) e h)

pub returns-clause-is : goal.returns-clause-is
returns-clause-is c =
    let p = c.args.pool.now in
    let g = signature_in p c.args.sig.now in
    let n = c.in_ok-is_type.field-0 in (
      n,
      subst (λ (es : List (Entry ℕ)). IsTypeOf g c.args.limits.fuel c.args.limits.depth (context_in p es) (tree p c.args.ty) (Gives n))
          (c.from_vec.ensures ∙ c.new.ensures.items) c.in_ok-is_type.ensures.answer,
    )
