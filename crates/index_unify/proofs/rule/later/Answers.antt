use Rattle.term_pool.specs.Pool.{tree}
use Rattle.index_unify.proofs.Chosens.{only_left, only_right, left_later, right_later}
use Rattle.index_unify.proofs.rule.later.Goals as goal

pub returns-in-None-Some-clause-is : goal.returns-in-None-Some-clause-is
returns-in-None-Some-clause-is c = λ ts p h k. only_right ts (tree p c.args.left) (tree p c.args.right) c.in-None-Some.var (rw c.in-None-Some.is-0 at h) (rw c.in-None-Some.is-1 at k)

pub returns-in-Some-None-clause-is : goal.returns-in-Some-None-clause-is
returns-in-Some-None-clause-is c = λ ts p h k. only_left ts (tree p c.args.left) (tree p c.args.right) c.in-Some-None.var (rw c.in-Some-None.is-0 at h) (rw c.in-Some-None.is-1 at k)

pub returns-then-var-other-clause-is : goal.returns-then-var-other-clause-is
returns-then-var-other-clause-is c = λ ts p h k. left_later ts (tree p c.args.left) (tree p c.args.right) c.in-Some-Some.var c.in-Some-Some.other c.if-var-other.true (rw c.in-Some-Some.is-0 at h) (rw c.in-Some-Some.is-1 at k)

pub returns-else-var-other-clause-is : goal.returns-else-var-other-clause-is
returns-else-var-other-clause-is c = λ ts p h k. right_later ts (tree p c.args.left) (tree p c.args.right) c.in-Some-Some.var c.in-Some-Some.other c.if-var-other.false (rw c.in-Some-Some.is-0 at h) (rw c.in-Some-Some.is-1 at k)
