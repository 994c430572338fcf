use Rattle.std.specs.Prelude.{◌≡◌, ◌∷◌, map}
use Rattle.std.proofs.Common.{subst}
use Rattle.std.proofs.lemmas.Result.{IfOk-weaker}
use Rattle.core_rules.specs.Unification.{St}
use Rattle.unify_rules.specs.Unifier.{after}
use Rattle.term_pool.specs.Pool.{tree}
use Rattle.core_terms.specs.Signature.{signature_in}
use Rattle.core_terms.specs.Solutions.{solved_in}
use Rattle.index_unify.specs.Unified.{equation_in}
use Rattle.index_unify.specs.State.{AllSettled, equations_of, next_in, rule_in, solutions_of}
use Rattle.index_unify.specs.Rules.{IsRuling}
use Rattle.index_unify.proofs.Turned.{Turns, state_more, still_settled, turn_by_rule}
use Rattle.index_unify.proofs.unifying.turn.Goals as goal

pub apply-requires-clause-state : goal.apply-requires-clause-state
apply-requires-clause-state g c = state_more c.args.pool.now c.rule_for.new.pool c.rule_for.ensures.extends c.args.state.now c.requires.state

pub returns-clause-settled : goal.returns-clause-settled
returns-clause-settled g c =
    let p = c.args.pool.now in
    let s = solved_in p (g.S.Solutions.solution c.args.sol.now) in
    let x = c.args.state.now in
    IfOk-weaker c.apply.result _ (λ o. AllSettled s c.apply.new.pool c.apply.new.state.equations.items)
    (λ o k. k s c.in_ok-rule.ensures.settled (still_settled p c.rule_for.new.pool c.rule_for.ensures.extends x c.requires.state s c.requires.settled)) c.apply.ensures.settled

pub returns-clause-is : goal.returns-clause-is
returns-clause-is g c =
    let p = c.args.pool.now in
    let q = c.rule_for.new.pool in
    let v = c.apply.new.pool in
    let G = signature_in p c.args.sig.now in
    let s = solved_in p (g.S.Solutions.solution c.args.sol.now) in
    let x = c.args.state.now in
    let e = c.args.equation in
    let fuel = c.args.limits.fuel in
    let depth = c.args.limits.depth in
    let rule = rule_in q c.in_ok-rule.rule in
    let h = subst (λ types. IsRuling G s fuel depth (map (tree p) types) (tree p e.left) (tree p e.right) rule) c.as_slice.ensures.value c.in_ok-rule.ensures.is in
    IfOk-weaker c.apply.result
    (λ o. next_in v o c.apply.new.state ≡ after rule (map (tree q) x.types.items) (equations_of q x.equations.items) (solutions_of q x.solutions.items))
    (λ o. Turns G s fuel depth (St (map (tree p) x.types.items) (equation_in (tree p) e ∷ equations_of p x.equations.items) (solutions_of p x.solutions.items)) (next_in v o c.apply.new.state))
    (λ o k. turn_by_rule p q c.rule_for.ensures.extends x c.requires.state G s fuel depth e rule (next_in v o c.apply.new.state) h k) c.apply.ensures.is
