use Rattle.std.proofs.Common.{◌≡◌, ℕ, ◌-◌, ap, subst, ◌∙◌, arith}
use Rattle.std.specs.Prelude.{IfOk}
use Rattle.core_rules.specs.Term.{Term}
use Rattle.core_rules.specs.Substitution.{shift}
use Rattle.term_pool.specs.Pool.{StandsFor, tree}
use Rattle.lhs_elab.specs.Moving.{moved_by}
use Rattle.lhs_elab.proofs.Moves.{move-stays, move-larger}
use Rattle.lhs_elab.proofs.moving.moved.Goals as goal

pub brought-requires-clause-by : goal.brought-requires-clause-by
brought-requires-clause-by c = move-larger c.args.pool.now c.shift.new.pool c.in_ok-whole.ensures.extends c.args.by.now c.requires.by

pub returns-clause-is : goal.returns-clause-is
returns-clause-is c =
    let p = c.args.pool.now in
    let q = c.shift.new.pool in
    let k = c.in_ok-whole.ensures in
    let n : c.saturating_sub-inner.result ≡ c.args.count - c.args.outer = omega (arith, c.saturating_sub-inner.ensures) in
    subst (λ (t : Term). IfOk c.brought.result (λ r. StandsFor c.brought.new.pool r t))
    (move-stays p q k.extends c.args.by.now c.requires.by (tree q c.in_ok-whole.whole) ∙ ap (moved_by (tree p) c.args.by.now) (k.is.is ∙ ap (λ (j : ℕ). shift (tree p c.args.t) 0 j) n)) c.brought.ensures.is
