use Rattle.std.proofs.Common.{◌≡◌, ◌∙◌, List, length, sym, subst, arith}
use Rattle.std.specs.Prelude.{◌==◌, false}
use Rattle.term_pool.specs.Pool.{tree}
use Rattle.weak_head.specs.declared.elim.Elim.{Elim}
use Rattle.conversion.proofs.Slices.{empty_of}
use Rattle.lhs_elab.proofs.FamilyHeads.{none-some}
use Rattle.lhs_elab.proofs.Functions.{is-function, not-eliminated, not-waiting, other-head}
use Rattle.lhs_elab.proofs.walk.function_of.Goals as goal

pub returns-then-is_some : goal.returns-then-is_some
returns-then-is_some c = not-waiting (tree c.args.pool.now) c.args.shown.now.meta c.args.shown.now.form (sym c.is_some.ensures ∙ c.if-is_some.true)

pub returns-then-not-is_empty : goal.returns-then-not-is_empty
returns-then-not-is_empty c =
    let a = c.args.shown.now.form in
    not-eliminated (tree c.args.pool.now) c.args.shown.now.meta a (none-some c.args.shown.now.meta (sym c.is_some.ensures ∙ c.if-is_some.false))
    (λ e. let h : (length a.spine.items == 0) ≡ false = sym c.is_empty.ensures ∙ c.if-not-is_empty.true in let k = subst (λ (xs : List Elim). (length xs == 0) ≡ false) e h in absurd (cc k))

pub returns-in-Pi : goal.returns-in-Pi
returns-in-Pi c =
    let f = tree c.args.pool.now in
    let a = c.args.shown.now.form in
    let n = c.in-Pi in
    let b = n.ensures.below in (
      omega (arith, b.0, c.requires.0),
      omega (arith, b.1, c.requires.0),
      is-function f c.args.shown.now.meta a n.flag n.name (f n.dom) (f n.cod) (none-some c.args.shown.now.meta (sym c.is_some.ensures ∙ c.if-is_some.false)) n.ensures.is (empty_of a.spine.items (sym c.is_empty.ensures ∙ c.if-not-is_empty.false)),
    )

pub returns-in_default : goal.returns-in_default
returns-in_default c =
    other-head (tree c.args.pool.now) c.args.shown.now.meta c.args.shown.now.form c.node.result (none-some c.args.shown.now.meta (sym c.is_some.ensures ∙ c.if-is_some.false)) c.node.ensures.is c.in_default.not-Pi
