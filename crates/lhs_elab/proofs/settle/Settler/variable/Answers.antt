use Rattle.std.proofs.Common.{◌≡◌, ℕ, ◌-◌, length, ap, ap₂, sym, ◌∙◌, arith}
use Rattle.core_rules.specs.Term.{Term, Var}
use Rattle.core_rules.specs.Signature.{Entry}
use Rattle.core_rules.specs.Substitution.{shift, value_at}
use Rattle.core_rules.specs.Unification.{whole_types}
use Rattle.index_unify.specs.Unified.{context_in}
use Rattle.term_pool.specs.Pool.{tree}
use Rattle.term_pool.specs.Growth.{Extends-tree}
use Rattle.lhs_rules.specs.Spots.{index_of}
use Rattle.lhs_elab.proofs.Branching.{whole-type}
use Rattle.lhs_elab.proofs.Contexts.{context-length}
use Rattle.lhs_elab.proofs.settle.Settler.variable.Goals as goal

pub returns-clause-is : goal.returns-clause-is
returns-clause-is c =
    let x = c.args.self.now in
    let p = x.pool.now in
    let q = c.shift.new.pool in
    let r = c.add.new.self in
    let es = x.left.now.context.items in
    let inner = c.in_ok-count.count - c.args.level in
    let n : inner - 1 ≡ index_of (context_in p es) c.args.level = omega (arith, c.in_ok-count.ensures, context-length p es, c.requires.level) in
    let m : inner ≡ length es - c.args.level = omega (arith, c.in_ok-count.ensures) in
    let e = c.index-entry.result.now in
    let value : tree r c.in_ok-value.value ≡ Var (index_of (context_in p es) c.args.level) = c.in_ok-value.ensures.stands.is ∙ ap Var n in
    let ty : tree r c.in_ok-ty.ty ≡ value_at (whole_types 0 (context_in p es)) (index_of (context_in p es) c.args.level) =
    Extends-tree c.in_ok-ty.ty c.in_ok-value.ensures.extends c.in_ok-ty.ensures.is.within ∙ (c.in_ok-ty.ensures.is.is ∙ (ap (λ (y : Entry ℕ). shift (tree p y.ty) 0 inner) c.entry.view_is ∙ sym (whole-type p es c.args.level inner e c.requires.level m c.index-entry.ensures))) in
    ap₂ (λ (t u : Term). record { value = t; ty = u }) value ty
