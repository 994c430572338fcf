use Rattle.std.proofs.Common.{rules, ◌≡◌, ℕ, List, subst, sym}
use Rattle.std.specs.Prelude.{IfOk}
use Rattle.core_rules.specs.Signature.{Entry}
use Rattle.core_rules.specs.TreeLaws.{IsSound}
use Rattle.core_rules.specs.Typing.{Typing}
use Rattle.term_pool.specs.Pool.{Pool, tree}
use Rattle.core_terms.specs.Signature.{signature_in}
use Rattle.kernel_rules.specs.TermReading.{InferOf}
use Rattle.core_kernel.specs.Answers.{AnswersTerm}
use Rattle.core_kernel.specs.Checker.{context_in}
use Rattle.core_kernel.proofs.Typed.{inferred}
use Rattle.core_kernel.proofs.kernel.infer.Goals as goal

pub returns-clause-answer : goal.returns-clause-answer
returns-clause-answer c =
    let p = c.args.pool.now in
    let g = signature_in p c.args.sig.now in
    let e : c.in_ok-context.context.items ≡ c.args.context.now = cc (c.in_ok-context.ensures.items, c.context.view_is, c.as_slice.ensures) in
    let y : Pool = c.infer.new.self.pool.now in
    let h : (z : Pool) → z ≡ y → AnswersTerm z (InferOf g c.args.limits.fuel c.args.limits.depth (context_in p c.args.context.now) (tree p c.args.t)) c.infer.result =
    λ z q. subst (λ (w : Pool). AnswersTerm w (InferOf g c.args.limits.fuel c.args.limits.depth (context_in p c.args.context.now) (tree p c.args.t)) c.infer.result) (sym q)
    (subst (λ (es : List (Entry ℕ)). AnswersTerm y (InferOf g c.args.limits.fuel c.args.limits.depth (context_in p es) (tree p c.args.t)) c.infer.result) e c.infer.ensures.is) in
    h _ (search rules)

pub returns-clause-typed : goal.returns-clause-typed
returns-clause-typed c =
    let p = c.args.pool.now in
    let g = signature_in p c.args.sig.now in
    let k = context_in p c.args.context.now in
    let e : c.in_ok-context.context.items ≡ c.args.context.now = cc (c.in_ok-context.ensures.items, c.context.view_is, c.as_slice.ensures) in
    let y : Pool = c.infer.new.self.pool.now in
    let t : IfOk c.infer.result (λ a. IsSound g → Typing g k (tree p c.args.t) (tree y a)) =
    inferred g c.args.limits.fuel c.args.limits.depth k (tree p c.args.t) y c.infer.result
    (subst (λ (es : List (Entry ℕ)). AnswersTerm y (InferOf g c.args.limits.fuel c.args.limits.depth (context_in p es) (tree p c.args.t)) c.infer.result) e c.infer.ensures.is) in
    let h : (z : Pool) → z ≡ y → IfOk c.infer.result (λ a. IsSound g → Typing g k (tree p c.args.t) (tree z a)) =
    λ z q. subst (λ (w : Pool). IfOk c.infer.result (λ a. IsSound g → Typing g k (tree p c.args.t) (tree w a))) (sym q) t in
    h _ (search rules)
