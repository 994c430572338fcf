use Rattle.std.proofs.Common.{sym, subst}
use Rattle.term_pool.specs.Pool.{tree}
use Rattle.unify_rules.specs.Unifier.{Cycles, cycles_left, cycles_right}
use Rattle.index_unify.proofs.Walks.{told-true}
use Rattle.index_unify.proofs.rule.cycle.Goals as goal

pub returns-then-branch : goal.returns-then-branch
returns-then-branch c =
    let p = c.args.pool.now in
    subst (λ t. Cycles t (tree p c.args.right) c.in-Var.var) (sym c.in-Var.ensures.is) (cycles_left (told-true c.in_ok-is_under_con.field-0 c.if-branch.true c.in_ok-is_under_con.ensures))

pub returns-then-branch-2 : goal.returns-then-branch-2
returns-then-branch-2 c =
    let p = c.args.pool.now in
    subst (λ t. Cycles (tree p c.args.left) t c.in-Var-node.var) (sym c.in-Var-node.ensures.is) (cycles_right (told-true c.in_ok-is_under_con-2.field-0 c.if-branch-2.true c.in_ok-is_under_con-2.ensures))
