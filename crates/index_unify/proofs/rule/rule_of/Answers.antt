use Rattle.std.specs.Prelude.{◌<◌, IfSome, length, map}
use Rattle.std.proofs.Common.{subst}
use Rattle.unify_rules.specs.Unifier.{solves, cycles, sticks}
use Rattle.term_pool.specs.Pool.{tree}
use Rattle.index_unify.specs.Rules.{IsChosen, IsByConstructors, IsCycle, IsSide}
use Rattle.index_unify.specs.State.{RuleBelow, IsSettled, rule_in}
use Rattle.index_unify.proofs.ByCons.{applies_by, side_has}
use Rattle.index_unify.proofs.rule.rule_of.Goals as goal

pub returns-in-Some-clause-is : goal.returns-in-Some-clause-is
returns-in-Some-clause-is c =
    let p = c.args.pool.now in
    solves (subst (IsChosen (map (tree p) c.args.types.now) (tree p c.args.left) (tree p c.args.right) p) c.in-Some.is c.in_ok-solution.ensures.is)

pub returns-in-Some-clause-below : goal.returns-in-Some-clause-below
returns-in-Some-clause-below c =
    side_has (λ i. i < length c.args.pool.now.trees) c.args.left c.args.right c.in-Some.solution (subst (IsSide c.args.left c.args.right) c.in-Some.is c.in_ok-solution.ensures.side) c.requires.left c.requires.right

pub returns-in-Some-clause-settled : goal.returns-in-Some-clause-settled
returns-in-Some-clause-settled c = λ s a b.
    side_has (λ i. IsSettled s (tree c.args.pool.now i)) c.args.left c.args.right c.in-Some.solution (subst (IsSide c.args.left c.args.right) c.in-Some.is c.in_ok-solution.ensures.side) a b

pub returns-in-Some-2-clause-is : goal.returns-in-Some-2-clause-is
returns-in-Some-2-clause-is c =
    let p = c.args.pool.now in
    applies_by (map (tree p) c.args.types.now) (tree p c.args.left) (tree p c.args.right) (rule_in p c.in-Some-2.rule) (subst (IsByConstructors (tree p c.args.left) (tree p c.args.right) p) c.in-Some-2.is c.in_ok-rule.ensures.is)

pub returns-in-Some-2-clause-below : goal.returns-in-Some-2-clause-below
returns-in-Some-2-clause-below c = subst (λ o. IfSome o (RuleBelow (length c.args.pool.now.trees))) c.in-Some-2.is c.in_ok-rule.ensures.below

pub returns-in-Some-2-clause-settled : goal.returns-in-Some-2-clause-settled
returns-in-Some-2-clause-settled c = λ s a b. (rw c.in-Some-2.is at c.in_ok-rule.ensures.settled) s a b

pub returns-in-Some-3-clause-is : goal.returns-in-Some-3-clause-is
returns-in-Some-3-clause-is c =
    let p = c.args.pool.now in
    cycles (subst (IsCycle (tree p c.args.left) (tree p c.args.right)) c.in-Some-3.is c.in_ok-var.ensures)

pub returns-clause-is : goal.returns-clause-is
returns-clause-is c =
    let p = c.args.pool.now in
    let t = tree p c.args.left in
    let u = tree p c.args.right in
    let n = subst (IsByConstructors t u p) c.in_default-2.is c.in_ok-rule.ensures.is in
    sticks (record {
      no_solve = subst (IsChosen (map (tree p) c.args.types.now) t u p) c.in_default.is c.in_ok-solution.ensures.is;
      no_inject = n.no_inject;
      no_conflict = n.no_conflict;
      no_cycle = subst (IsCycle t u) c.in_default-3.is c.in_ok-var.ensures;
    })
