use Rattle.std.proofs.Common.{◌∙◌, ap, ◌≡◌, map, ◌<◌, length, subst, sym}
use Rattle.std.specs.List.{AllByRecursion}
use Rattle.core_rules.specs.Term.{End, from_list}
use Rattle.term_pool.specs.Pool.{args, tree}
use Rattle.term_pool.proofs.ArgLists.{taken_next, taken_all}
use Rattle.term_pool.proofs.pool.TermPool.args.Goals as goal

pub loop-cell-preserved : goal.loop-cell-preserved
loop-cell-preserved c =
    taken_next c.args.self.now c.args.a c.loop-cell.ids.items c.push.new.self.items c.loop-cell.left _ _ c.loop-cell.invariant (rw c.in-Some.is at c.first.ensures) c.in_ok-push.ensures.items

pub returns-clause-within : goal.returns-clause-within
returns-clause-within c = subst (AllByRecursion (λ i. i < length c.args.self.now.trees)) (sym c.from_vec.ensures) c.loop-cell.invariant.within

pub returns-clause-is : goal.returns-clause-is
returns-clause-is c =
    let none : args c.args.self.now c.loop-cell.left ≡ End = rw c.in_default.is at c.first.ensures in
    ap (λ ids. from_list (map (tree c.args.self.now) ids)) c.from_vec.ensures ∙ taken_all c.args.self.now c.args.a c.loop-cell.ids.items c.loop-cell.left c.loop-cell.invariant none
