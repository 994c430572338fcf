use Rattle.std.proofs.Common.{rules, ◌≡◌, ℕ, List, subst, sym}
use Rattle.core_rules.specs.Signature.{Entry}
use Rattle.term_pool.specs.Pool.{Pool, tree}
use Rattle.core_terms.specs.Signature.{signature_in}
use Rattle.kernel_rules.specs.TermReading.{CheckOf}
use Rattle.core_kernel.specs.Answers.{Answers}
use Rattle.core_kernel.specs.Checker.{context_in}
use Rattle.core_kernel.proofs.Typed.{checked}
use Rattle.core_kernel.proofs.kernel.check.Goals as goal

pub returns-clause-answer : goal.returns-clause-answer
returns-clause-answer c =
    let e : c.in_ok-context.context.items ≡ c.args.context.now = cc (c.in_ok-context.ensures.items, c.context.view_is, c.as_slice.ensures) in
    let y : Pool = c.check.new.self.pool.now in
    let h : (p : Pool) → p ≡ y → Answers p (CheckOf (signature_in c.args.pool.now c.args.sig.now) c.args.limits.fuel c.args.limits.depth (context_in c.args.pool.now c.args.context.now) (tree c.args.pool.now c.args.t) (tree c.args.pool.now c.args.ty)) c.check.result =
    λ p q. subst (λ (p : Pool). Answers p (CheckOf (signature_in c.args.pool.now c.args.sig.now) c.args.limits.fuel c.args.limits.depth (context_in c.args.pool.now c.args.context.now) (tree c.args.pool.now c.args.t) (tree c.args.pool.now c.args.ty)) c.check.result) (sym q)
    (subst (λ (es : List (Entry ℕ)). Answers y (CheckOf (signature_in c.args.pool.now c.args.sig.now) c.args.limits.fuel c.args.limits.depth (context_in c.args.pool.now es) (tree c.args.pool.now c.args.t) (tree c.args.pool.now c.args.ty)) c.check.result) e c.check.ensures.is) in
    h _ (search rules)

pub returns-clause-typed : goal.returns-clause-typed
returns-clause-typed c =
    let p = c.args.pool.now in
    let g = signature_in p c.args.sig.now in
    let e : c.in_ok-context.context.items ≡ c.args.context.now = cc (c.in_ok-context.ensures.items, c.context.view_is, c.as_slice.ensures) in
    let y : Pool = c.check.new.self.pool.now in
    checked g c.args.limits.fuel c.args.limits.depth (context_in p c.args.context.now) (tree p c.args.t) y (tree p c.args.ty) c.check.result
    (subst (λ (es : List (Entry ℕ)). Answers y (CheckOf g c.args.limits.fuel c.args.limits.depth (context_in p es) (tree p c.args.t) (tree p c.args.ty)) c.check.result) e c.check.ensures.is)
