use Rattle.std.proofs.Common.{subst}
use Rattle.case_terms.specs.Known.{IsOver}
use Rattle.case_terms.proofs.TreeScopes.{known_tree, known_within}
use Rattle.case_terms.proofs.scope.is_tree_in_scope.Goals as goal

pub returns-clause-within : goal.returns-clause-within
returns-clause-within c = λ b.
    let p = c.args.pool.now in
    let g = c.args.sig.now in
    let o = subst (λ n. IsOver p g n c.in_ok-ids.ids) c.fams.ensures c.in_ok-ids.ensures.over in
    known_within p g c.in_ok-ids.ids o 0 c.args.tree.now (c.is_tree.ensures b)

pub returns-clause-scope : goal.returns-clause-scope
returns-clause-scope c = λ b.
    let p = c.args.pool.now in
    let g = c.args.sig.now in
    let o = subst (λ n. IsOver p g n c.in_ok-ids.ids) c.fams.ensures c.in_ok-ids.ensures.over in
    known_tree p g c.in_ok-ids.ids o 0 c.args.tree.now (c.is_tree.ensures b)
