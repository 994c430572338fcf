use Rattle.std.proofs.Common.{subst}
use Rattle.case_terms.specs.Known.{IsOver}
use Rattle.case_terms.proofs.Scopes.{known_in_scope}
use Rattle.case_terms.proofs.scope.is_in_scope.Goals as goal

pub returns-clause-scope : goal.returns-clause-scope
returns-clause-scope c = λ b.
    let p = c.args.pool.now in
    let g = c.args.sig.now in
    let o = subst (λ n. IsOver p g n c.in_ok-ids.ids) c.fams.ensures c.in_ok-ids.ensures.over in
    (known_in_scope p g c.in_ok-ids.ids c.args.under c.args.t o (c.is_term.ensures b)).1
