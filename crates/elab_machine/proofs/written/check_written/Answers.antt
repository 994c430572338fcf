use Rattle.std.proofs.Common.{rules, ◌≡◌, ap, sym, subst, ◌∙◌}
use Rattle.term_pool.specs.Pool.{Pool, tree}
use Rattle.core_terms.specs.Signature.{signature_in}
use Rattle.written_rules.specs.Expressions.{WrittenOf}
use Rattle.written_rules.specs.Rules.{Values}
use Rattle.elab_machine.specs.Answers.{AnswersTerm}
use Rattle.elab_machine.specs.Writer.{AreValues, values_in}
use Rattle.elab_machine.specs.Written.{source_values}
use Rattle.elab_machine.proofs.Outermost.{outermost-values, outermost-within}
use Rattle.elab_machine.proofs.written.check_written.Goals as goal

pub check_expr-requires-clause-ready : goal.check_expr-requires-clause-ready
check_expr-requires-clause-ready c =
    let p = c.args.pool.now in
    record { signature = c.requires.stands; values = subst (AreValues p 0) (sym c.in_ok-values.ensures) (outermost-within p c.args.values.now c.requires.values) }

pub returns-clause-answer : goal.returns-clause-answer
returns-clause-answer c =
    let p = c.args.pool.now in
    let g = signature_in p c.args.sig.now in
    let vs = source_values p c.args.values.now in
    let e : values_in p 0 c.in_ok-values.values.items ≡ vs = ap (values_in p 0) c.in_ok-values.ensures ∙ outermost-values p c.args.values.now in
    let y : Pool = c.check_expr.new.self.pool.now in
    let W : Values → Pool → Type 0 = λ us q. AnswersTerm q (WrittenOf g c.args.limits.fuel c.args.limits.depth us c.args.expr.now (tree p c.args.ty)) c.check_expr.result in
    let h : (q : Pool) → q ≡ y → W vs q = λ q i. subst (W vs) (sym i) (subst (λ (us : Values). W us y) e c.check_expr.ensures.is) in
    h _ (search rules)
