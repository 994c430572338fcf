use Rattle.std.proofs.Common.{ap}
use Rattle.std.proofs.lemmas.Result.{err_from_is_err_and}
use Rattle.std.specs.Prelude.{map}
use Rattle.core_rules.specs.Mapped.{left_map}
use Rattle.core_terms.specs.Signature.{signature_in}
use Rattle.core_terms.specs.Solutions.{solved_in}
use Rattle.kernel_rules.specs.Outcome.{Gives}
use Rattle.term_pool.specs.Pool.{tree}
use Rattle.lhs_rules.specs.Asking.{gives}
use Rattle.lhs_rules.specs.Patterns.{left_of, pattern_meaning}
use Rattle.lhs_rules.specs.Rules.{all_elims}
use Rattle.lhs_rules.specs.Spots.{Left, start}
use Rattle.lhs_elab.specs.Elaborator.{Over}
use Rattle.lhs_elab.specs.Lefts.{left_in}
use Rattle.lhs_elab.proofs.Stepping.{off-by, on}
use Rattle.lhs_elab.proofs.clause.left_side.Goals as goal

pub returns-in_err-left-clause-answer : goal.returns-in_err-left-clause-answer
returns-in_err-left-clause-answer g c = λ f full.
    let p = c.args.pool.now in
    let G = signature_in p c.args.sig.now in
    let q = c.args.clause.now in
    let o : Over = record { signature = G; solved = solved_in p (g.S.Solutions.solution c.args.sol.now); full = f; fuel = c.args.limits.fuel; depth = c.args.limits.depth } in
    let all = all_elims G q.function (map (pattern_meaning G q.function) q.patterns) (start (tree p c.args.ty)) in
    let e = err_from_is_err_and c.from_residual.result c.from_residual.ensures.1 in
    rw (e.1, e.2) (off-by o all (λ (l : Left). gives (left_of l)) c.walked.new.pool c.in_err-left.field-0.0 (c.in_err-left.ensures.is f full))

pub returns-clause-answer : goal.returns-clause-answer
returns-clause-answer g c = λ f full.
    let p = c.args.pool.now in
    let G = signature_in p c.args.sig.now in
    let q = c.args.clause.now in
    let o : Over = record { signature = G; solved = solved_in p (g.S.Solutions.solution c.args.sol.now); full = f; fuel = c.args.limits.fuel; depth = c.args.limits.depth } in
    let all = all_elims G q.function (map (pattern_meaning G q.function) q.patterns) (start (tree p c.args.ty)) in
    let k = c.in_ok-checked.ensures in
    let l = left_in c.walked.new.pool c.in_ok-left.left in (
      k.below,
      on o all (λ (l : Left). gives (left_of l)) l (Gives (left_map (tree c.checked.new.pool) c.in_ok-checked.field-0)) (c.in_ok-left.ensures.is f full) (ap Gives k.is),
    )
