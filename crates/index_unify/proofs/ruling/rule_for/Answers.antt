use Rattle.std.specs.Prelude.{ℕ, Option, map}
use Rattle.std.proofs.Common.{subst}
use Rattle.std.proofs.lemmas.Result.{IfOk-weaker}
use Rattle.core_rules.specs.InScope.{IsAcyclic}
use Rattle.term_pool.specs.Pool.{tree}
use Rattle.term_pool.specs.Growth.{Extends-trans}
use Rattle.core_terms.specs.Signature.{signature_in}
use Rattle.core_terms.specs.Solutions.{solved_in}
use Rattle.core_terms.proofs.SignatureGrowth.{Stands-extends}
use Rattle.index_unify.specs.State.{IsSettled, RuleSettled, rule_in}
use Rattle.index_unify.specs.Rules.{IsForm, IsRuling, RuledBy}
use Rattle.index_unify.proofs.Grown.{IdStands, id_in, ids, all_more}
use Rattle.index_unify.proofs.Ruled.{out_on_left, rule_out_on_right, rule_found, left_settled, right_settled, solved_larger}
use Rattle.index_unify.proofs.ruling.rule_for.Goals as goal

pub returns-in_default-clause-is : goal.returns-in_default-clause-is
returns-in_default-clause-is g c =
    let p = c.args.pool.now in
    let G = signature_in p c.args.sig.now in
    let s = solved_in p (g.S.Solutions.solution c.args.sol.now) in
    let e = c.args.equation in
    out_on_left G s c.requires.acyclic c.args.limits.fuel c.args.limits.depth (map (tree p) c.args.types.now) (tree p e.left) (tree p e.right) c.requires.settled.0 c.requires.settled.1
    (subst (IsForm G s (tree p e.left) c.args.limits.fuel c.form.new.pool) c.in_default.is c.in_ok-left.ensures.is)

pub form-requires-2-clause-stands : goal.form-requires-2-clause-stands
form-requires-2-clause-stands g c = Stands-extends _ _ _ c.form.ensures.extends c.requires.stands

pub form-requires-2-clause-acyclic : goal.form-requires-2-clause-acyclic
form-requires-2-clause-acyclic g c = solved_larger c.form.ensures.extends (g.S.Solutions.solution c.args.sol.now) c.requires.solutions IsAcyclic c.requires.acyclic

pub returns-in_default-2-clause-is : goal.returns-in_default-2-clause-is
returns-in_default-2-clause-is g c =
    let p = c.args.pool.now in
    let p1 = c.form.new.pool in
    let p2 = c.form-2.new.pool in
    let f : ℕ → Option ℕ = g.S.Solutions.solution c.args.sol.now in
    let e = c.args.equation in
    let fuel = c.args.limits.fuel in
    rule_out_on_right c.form.ensures.extends c.form-2.ensures.extends c.args.sig.now c.requires.stands f c.requires.solutions c.requires.acyclic fuel c.args.limits.depth c.args.types.now c.requires.types e c.requires.equation c.requires.settled c.in-Some.left
    (subst (IsForm (signature_in p c.args.sig.now) (solved_in p f) (tree p e.left) fuel p1) c.in-Some.is c.in_ok-left.ensures.is)
    (subst (IsForm (signature_in p1 c.args.sig.now) (solved_in p1 f) (tree p1 e.right) fuel p2) c.in_default-2.is c.in_ok-right.ensures.is)

pub convert-verdict-requires-clause-stands : goal.convert-verdict-requires-clause-stands
convert-verdict-requires-clause-stands g c = Stands-extends _ _ _ (Extends-trans c.form.ensures.extends c.form-2.ensures.extends) c.requires.stands

pub convert-verdict-requires-clause-acyclic : goal.convert-verdict-requires-clause-acyclic
convert-verdict-requires-clause-acyclic g c =
    solved_larger (Extends-trans c.form.ensures.extends c.form-2.ensures.extends) (g.S.Solutions.solution c.args.sol.now) c.requires.solutions IsAcyclic c.requires.acyclic

pub by_verdict-requires-clause-types : goal.by_verdict-requires-clause-types
by_verdict-requires-clause-types g c =
    all_more IdStands id_in ids c.args.pool.now c.convert-verdict.new.pool (Extends-trans (Extends-trans c.form.ensures.extends c.form-2.ensures.extends) c.convert-verdict.ensures.extends) c.args.types.now c.requires.types

pub returns-clause-settled : goal.returns-clause-settled
returns-clause-settled g c =
    let p = c.args.pool.now in
    let p1 = c.form.new.pool in
    let p2 = c.form-2.new.pool in
    let p3 = c.convert-verdict.new.pool in
    let f : ℕ → Option ℕ = g.S.Solutions.solution c.args.sol.now in
    let s = solved_in p f in
    let e = c.args.equation in
    let fuel = c.args.limits.fuel in
    let h = subst (IsForm (signature_in p c.args.sig.now) s (tree p e.left) fuel p1) c.in-Some.is c.in_ok-left.ensures.is in
    let k = subst (IsForm (signature_in p1 c.args.sig.now) (solved_in p1 f) (tree p1 e.right) fuel p2) c.in-Some-2.is c.in_ok-right.ensures.is in
    let l : IsSettled s (tree p3 c.in-Some.left) =
    left_settled c.form.ensures.extends c.form-2.ensures.extends c.args.sig.now c.requires.stands f c.requires.solutions c.requires.acyclic fuel c.args.limits.depth c.args.types.now c.requires.types e c.requires.equation c.requires.settled
    c.convert-verdict.ensures.extends c.in-Some.left c.in-Some-2.right h k in
    let r : IsSettled s (tree p3 c.in-Some-2.right) =
    right_settled c.form.ensures.extends c.form-2.ensures.extends c.args.sig.now c.requires.stands f c.requires.solutions c.requires.acyclic fuel c.args.limits.depth c.args.types.now c.requires.types e c.requires.equation c.requires.settled
    c.convert-verdict.ensures.extends c.in-Some.left c.in-Some-2.right h k in
    IfOk-weaker c.by_verdict.result _ (RuleSettled s p3) (λ x m. m s l r) c.by_verdict.ensures.settled

pub returns-clause-is : goal.returns-clause-is
returns-clause-is g c =
    let p = c.args.pool.now in
    let p1 = c.form.new.pool in
    let p2 = c.form-2.new.pool in
    let p3 = c.convert-verdict.new.pool in
    let f : ℕ → Option ℕ = g.S.Solutions.solution c.args.sol.now in
    let s = solved_in p f in
    let e = c.args.equation in
    let fuel = c.args.limits.fuel in
    let h = subst (IsForm (signature_in p c.args.sig.now) s (tree p e.left) fuel p1) c.in-Some.is c.in_ok-left.ensures.is in
    let k = subst (IsForm (signature_in p1 c.args.sig.now) (solved_in p1 f) (tree p1 e.right) fuel p2) c.in-Some-2.is c.in_ok-right.ensures.is in
    IfOk-weaker c.by_verdict.result
    (λ r. RuledBy (map (tree p3) c.args.types.now) (tree p3 c.in-Some.left) (tree p3 c.in-Some-2.right) p3 c.convert-verdict.result (rule_in p3 r))
    (λ r. IsRuling (signature_in p c.args.sig.now) s fuel c.args.limits.depth (map (tree p) c.args.types.now) (tree p e.left) (tree p e.right) (rule_in p3 r))
    (λ r d. rule_found c.form.ensures.extends c.form-2.ensures.extends c.args.sig.now c.requires.stands f c.requires.solutions c.requires.acyclic fuel c.args.limits.depth c.args.types.now c.requires.types e c.requires.equation c.requires.settled
    c.convert-verdict.ensures.extends c.in-Some.left c.in-Some-2.right h k c.convert-verdict.result (rule_in p3 r) c.convert-verdict.ensures.answer d)
    c.by_verdict.ensures.is
