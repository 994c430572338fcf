use Rattle.std.proofs.Common.{rules, ◌≡◌, ◌<◌, length, ap, sym, subst, ◌∙◌}
use Rattle.std.proofs.lemmas.Result.{err_from_is_err_and}
use Rattle.term_pool.specs.Pool.{Pool, tree}
use Rattle.core_terms.specs.Signature.{signature_in}
use Rattle.kernel_rules.specs.Outcome.{Gives, Refuses}
use Rattle.written_rules.specs.Expressions.{WrittenTypeOf}
use Rattle.written_rules.specs.Rules.{Values}
use Rattle.elab_machine.specs.Answers.{RefusedBy}
use Rattle.elab_machine.specs.Writer.{AreValues, values_in}
use Rattle.elab_machine.specs.Written.{source_values}
use Rattle.elab_machine.proofs.Outermost.{outermost-values, outermost-within}
use Rattle.elab_machine.proofs.written.type_written.Goals as goal

pub type_expr-requires : goal.type_expr-requires
type_expr-requires c =
    let p = c.args.pool.now in
    record { ready = record { signature = c.requires.stands; values = subst (AreValues p 0) (sym c.in_ok-values.ensures) (outermost-within p c.args.values.now c.requires.values) } }

pub returns-in_err-term-clause-answer : goal.returns-in_err-term-clause-answer
returns-in_err-term-clause-answer c =
    let p = c.args.pool.now in
    let g = signature_in p c.args.sig.now in
    let vs = source_values p c.args.values.now in
    let e : values_in p 0 c.in_ok-values.values.items ≡ vs = ap (values_in p 0) c.in_ok-values.ensures ∙ outermost-values p c.args.values.now in
    let y : Pool = c.type_expr.new.self.pool.now in
    let d = c.in_err-term.field-0.0 in
    let r = err_from_is_err_and c.from_residual-in_err-term.result c.from_residual-in_err-term.ensures.1 in
    let W : Values → Pool → Type 0 = λ us q. RefusedBy q (λ r. WrittenTypeOf g c.args.limits.fuel c.args.limits.depth us c.args.expr.now (Refuses r)) d in
    let h : (q : Pool) → q ≡ y → W vs q = λ q i. subst (W vs) (sym i) (subst (λ (us : Values). W us y) e c.in_err-term.ensures.is) in
    rw (r.1, r.2) (h _ (search rules))

pub returns-clause-answer : goal.returns-clause-answer
returns-clause-answer c =
    let p = c.args.pool.now in
    let g = signature_in p c.args.sig.now in
    let vs = source_values p c.args.values.now in
    let e : values_in p 0 c.in_ok-values.values.items ≡ vs = ap (values_in p 0) c.in_ok-values.ensures ∙ outermost-values p c.args.values.now in
    let y : Pool = c.type_expr.new.self.pool.now in
    let t = c.in_ok-term.field-0 in
    let W : Values → Pool → Type 0 = λ us q. (t.term < length q.trees) × WrittenTypeOf g c.args.limits.fuel c.args.limits.depth us c.args.expr.now (Gives (tree q t.term, t.level)) in
    let h : (q : Pool) → q ≡ y → W vs q = λ q i. subst (W vs) (sym i) (subst (λ (us : Values). W us y) e c.in_ok-term.ensures.is) in
    h _ (search rules)
