use Rattle.std.proofs.Common.{◌≡◌, ℕ, ◌-◌, length, ap, ap₂, ◌∙◌, arith}
use Rattle.core_rules.specs.Term.{Term}
use Rattle.core_rules.specs.Substitution.{shift}
use Rattle.index_unify.specs.Unified.{context_in}
use Rattle.term_pool.specs.Pool.{tree}
use Rattle.term_pool.specs.Growth.{Extends-tree}
use Rattle.lhs_elab.proofs.Contexts.{context-length}
use Rattle.lhs_elab.proofs.settle.Settler.value.Goals as goal

pub returns-clause-is : goal.returns-clause-is
returns-clause-is c =
    let x = c.args.self.now in
    let p = x.pool.now in
    let q = c.shift.new.pool in
    let r = c.shift-2.new.pool in
    let es = x.left.now.context.items in
    let v = c.args.placed in
    let n : c.saturating_sub-by.result ≡ length (context_in p es) - v.outer = omega (arith, c.in_ok-count.ensures, c.saturating_sub-by.ensures, context-length p es) in
    let value : tree r c.in_ok-value.value ≡ shift (tree p v.value) 0 (length (context_in p es) - v.outer) =
    Extends-tree c.in_ok-value.value c.in_ok-ty.ensures.extends c.in_ok-value.ensures.is.within ∙ (c.in_ok-value.ensures.is.is ∙ ap (λ (m : ℕ). shift (tree p v.value) 0 m) n) in
    let ty : tree r c.in_ok-ty.ty ≡ shift (tree p v.ty) 0 (length (context_in p es) - v.outer) =
    c.in_ok-ty.ensures.is.is ∙ ap₂ (λ (t : Term) (m : ℕ). shift t 0 m) (Extends-tree v.ty c.in_ok-value.ensures.extends c.requires.ty) n in
    ap₂ (λ (t u : Term). record { value = t; ty = u }) value ty
