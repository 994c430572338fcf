use Rattle.std.proofs.Common.{rules, ◌≡◌, List, length, map, sym, subst}
use Rattle.std.proofs.lemmas.Result.{err_from_is_err_and}
use Rattle.core_terms.specs.Signature.{signature_in}
use Rattle.core_terms.specs.Solutions.{solved_in}
use Rattle.kernel_rules.specs.Outcome.{Refuses}
use Rattle.resolved_tree.specs.declared.resolved.ResolvedPattern.{ResolvedPattern}
use Rattle.term_pool.specs.Pool.{Extends, Pool, tree}
use Rattle.lhs_rules.specs.Patterns.{pattern_meaning}
use Rattle.lhs_rules.specs.Refusals.{Refusal}
use Rattle.lhs_rules.specs.Rules.{all_elims}
use Rattle.lhs_rules.specs.Spots.{Left, start}
use Rattle.lhs_elab.specs.Answers.{RefusedBy}
use Rattle.lhs_elab.specs.declared.left.Left.{Left as CodeLeft}
use Rattle.lhs_elab.specs.Elaborator.{Comes, Over}
use Rattle.lhs_elab.specs.Lefts.{LeftBelow, left_in}
use Rattle.lhs_elab.proofs.clause.walked.Goals as goal

pub returns-clause-extends : goal.returns-clause-extends
returns-clause-extends g c =
    let y : Pool = c.all_elims.new.self.pool.now in
    let h : (z : Pool) → z ≡ y → Extends c.args.pool.now z = λ z q. subst (Extends c.args.pool.now) (sym q) c.in_ok-all_elims.ensures.grows.extends in
    h _ (search rules)

pub returns-clause-below : goal.returns-clause-below
returns-clause-below g c =
    let x = c.all_elims.new.self in
    let y : Pool = x.pool.now in
    let h : (z : Pool) (l : CodeLeft) → z ≡ y → l ≡ x.left.now → LeftBelow (length z.trees) l = λ z l q e. rw (q, e) c.in_ok-all_elims.ensures.ready.left in
    h _ _ (search rules) (search rules)

pub returns-in_err-all_elims-clause-extends : goal.returns-in_err-all_elims-clause-extends
returns-in_err-all_elims-clause-extends g c =
    let y : Pool = c.all_elims.new.self.pool.now in
    let h : (z : Pool) → z ≡ y → Extends c.args.pool.now z = λ z q. subst (Extends c.args.pool.now) (sym q) c.in_err-all_elims.ensures.grows.extends in
    h _ (search rules)

pub returns-in_err-all_elims-clause-is : goal.returns-in_err-all_elims-clause-is
returns-in_err-all_elims-clause-is g c = λ f full.
    let p = c.args.pool.now in
    let G = signature_in p c.args.sig.now in
    let q = c.args.clause.now in
    let o : Over = record { signature = G; solved = solved_in p (g.S.Solutions.solution c.args.sol.now); full = f; fuel = c.args.limits.fuel; depth = c.args.limits.depth } in
    let y : Pool = c.all_elims.new.self.pool.now in
    let ms = map (pattern_meaning G q.function) q.patterns in
    let e = err_from_is_err_and c.from_residual.result c.from_residual.ensures.1 in
    let given : RefusedBy y (λ (r : Refusal). Comes o (all_elims G q.function ms (start (tree p c.args.ty))) (Refuses r)) c.in_err-all_elims.field-0.0 =
    subst (λ (l : Left). RefusedBy y (λ (r : Refusal). Comes o (all_elims G q.function ms l) (Refuses r)) c.in_err-all_elims.field-0.0) (c.start-left.ensures.is p)
    (subst (λ (rs : List ResolvedPattern). RefusedBy y (λ (r : Refusal). Comes o (all_elims G q.function (map (pattern_meaning G q.function) rs) (left_in p c.start-left.result)) (Refuses r)) c.in_err-all_elims.field-0.0) c.as_slice.ensures (c.in_err-all_elims.ensures.is f full)) in
    let h : (z : Pool) → z ≡ y → RefusedBy z (λ (r : Refusal). Comes o (all_elims G q.function ms (start (tree p c.args.ty))) (Refuses r)) c.in_err-all_elims.field-0.0 =
    λ z e. subst (λ (w : Pool). RefusedBy w (λ (r : Refusal). Comes o (all_elims G q.function ms (start (tree p c.args.ty))) (Refuses r)) c.in_err-all_elims.field-0.0) (sym e) given in
    rw (e.1, e.2) (h _ (search rules))
