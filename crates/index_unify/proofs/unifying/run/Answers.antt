use Rattle.std.specs.Prelude.{◌≡◌, [], ◌∷◌, ℕ, Option, length, map}
use Rattle.std.proofs.Common.{arith, sym, ap, subst, ◌∙◌}
use Rattle.std.proofs.lemmas.List.{nil_from_length}
use Rattle.el_base.proofs.Throughout.{all-front, all-last}
use Rattle.core_rules.specs.Substitution.{replace}
use Rattle.core_rules.specs.Mapped.{telescope_map}
use Rattle.core_rules.specs.InScope.{IsAcyclic}
use Rattle.core_rules.specs.Unification.{St}
use Rattle.unify_rules.specs.Unifier.{Answers, Goes, UnifyOf}
use Rattle.unify_rules.specs.Joined.{branch_of}
use Rattle.term_pool.specs.Pool.{tree}
use Rattle.term_pool.specs.Growth.{Extends-trans}
use Rattle.core_terms.specs.Signature.{signature_in}
use Rattle.core_terms.specs.Solutions.{solved_in}
use Rattle.core_terms.proofs.SignatureGrowth.{Stands-extends}
use Rattle.weak_head.proofs.Turning.{whole_solutions, whole_full}
use Rattle.index_unify.specs.Unified.{EquationStands, IsUnified, context_in, equation_in, equations_in}
use Rattle.index_unify.specs.State.{AllSettled, EndsBelow, EquationSettled, ending_in, equations_of, next_in, solutions_of, state_in}
use Rattle.index_unify.proofs.Branches.{context_length}
use Rattle.index_unify.proofs.Ruled.{solved_larger, solved_smaller}
use Rattle.index_unify.proofs.Turned.{Leads, Turns, begun_count, context_stays, fewer_turns, leads-done, leads-end, leads-first, leads-on, turn_at}
use Rattle.index_unify.proofs.unifying.run.Goals as goal

pub loop-equation-init : goal.loop-equation-init
loop-equation-init g c =
    let p = c.args.pool.now in
    let f : ℕ → Option ℕ = g.S.Solutions.solution c.args.sol.now in
    let q = c.begin.new.pool in
    let x = c.in_ok-state.state in
    let C = context_in p c.args.context.now in
    let w = whole_solutions p f in
    record {
      extends = c.begin.ensures.extends;
      below = c.in_ok-state.ensures.below;
      count = begun_count q x (telescope_map (replace w) C) _ (c.in_ok-state.ensures.is w (whole_full p f c.requires.solutions c.requires.acyclic)) ∙ context_length p (replace w) c.args.context.now;
      settled = c.in_ok-state.ensures.settled;
      leads = leads-first (signature_in p c.args.sig.now) (solved_in p f) c.args.limits.fuel c.args.limits.depth C (equations_in p c.args.equations.now) (state_in q x) c.in_ok-state.ensures.is;
    }

pub turn-requires-clause-equation : goal.turn-requires-clause-equation
turn-requires-clause-equation g c =
    let n = length c.loop-equation.pool.trees in
    all-last (EquationStands n) c.pop.new.self.items c.in-Some.equation (rw c.in-Some.ensures.items at c.loop-equation.invariant.below.equations)

pub turn-requires-clause-first : goal.turn-requires-clause-first
turn-requires-clause-first g c =
    let q = c.loop-equation.pool in
    let f : ℕ → Option ℕ = g.S.Solutions.solution c.args.sol.now in
    let e = c.in-Some.equation in
    let h = all-last (EquationSettled (solved_in c.args.pool.now f) q) c.pop.new.self.items e (subst (AllSettled (solved_in c.args.pool.now f) q) c.in-Some.ensures.items c.loop-equation.invariant.settled) in
    solved_larger c.loop-equation.invariant.extends f c.requires.solutions (λ s. EquationSettled s q e) h

pub turn-requires-clause-settled : goal.turn-requires-clause-settled
turn-requires-clause-settled g c =
    let q = c.loop-equation.pool in
    let f : ℕ → Option ℕ = g.S.Solutions.solution c.args.sol.now in
    let h = all-front (EquationSettled (solved_in c.args.pool.now f) q) c.pop.new.self.items c.in-Some.equation (subst (AllSettled (solved_in c.args.pool.now f) q) c.in-Some.ensures.items c.loop-equation.invariant.settled) in
    solved_larger c.loop-equation.invariant.extends f c.requires.solutions (λ s. AllSettled s q c.pop.new.self.items) h

pub turn-requires-clause-stands : goal.turn-requires-clause-stands
turn-requires-clause-stands g c = Stands-extends _ _ _ c.loop-equation.invariant.extends c.requires.stands

pub turn-requires-clause-acyclic : goal.turn-requires-clause-acyclic
turn-requires-clause-acyclic g c = solved_larger c.loop-equation.invariant.extends (g.S.Solutions.solution c.args.sol.now) c.requires.solutions IsAcyclic c.requires.acyclic

pub returns-in-Some-2-clause-answer : goal.returns-in-Some-2-clause-answer
returns-in-Some-2-clause-answer g c = λ f h.
    let p = c.args.pool.now in
    let q = c.loop-equation.pool in
    let v = c.turn.new.pool in
    let F : ℕ → Option ℕ = g.S.Solutions.solution c.args.sol.now in
    let G = signature_in p c.args.sig.now in
    let s = solved_in p F in
    let fuel = c.args.limits.fuel in
    let depth = c.args.limits.depth in
    let C = context_in p c.args.context.now in
    let es = equations_in p c.args.equations.now in
    let x = c.loop-equation.state in
    let ts = map (tree q) x.types.items in
    let ss = solutions_of q x.solutions.items in
    let rest = c.pop.new.self.items in
    let e = c.in-Some.equation in
    let ending = c.in-Some-2.ending in
    let t = subst (λ o. Turns (signature_in q c.args.sig.now) (solved_in q F) fuel depth (St ts (equation_in (tree q) e ∷ equations_of q rest) ss) (next_in v o c.turn.new.state)) c.in-Some-2.is c.in_ok-ending.ensures.is in
    let u = turn_at c.loop-equation.invariant.extends c.args.sig.now c.requires.stands F c.requires.solutions fuel depth ts x.equations.items rest e ss (Answers (ending_in v ending)) c.in-Some.ensures.items t in
    subst (IsUnified (UnifyOf G f fuel depth C es) v (telescope_map (replace f) C)) (sym c.ended.ensures)
    (leads-end G s fuel depth C es (state_in q x) v ending (subst (EndsBelow (length v.trees)) c.in-Some-2.is c.in_ok-ending.ensures.ends) u c.loop-equation.invariant.leads (λ f. telescope_map (replace f) C) f h)

pub loop-equation-smaller : goal.loop-equation-smaller
loop-equation-smaller g c =
    let q = c.loop-equation.pool in
    let v = c.turn.new.pool in
    let F : ℕ → Option ℕ = g.S.Solutions.solution c.args.sol.now in
    let fuel = c.args.limits.fuel in
    let depth = c.args.limits.depth in
    let x = c.loop-equation.state in
    let y = c.turn.new.state in
    let ts = map (tree q) x.types.items in
    let ss = solutions_of q x.solutions.items in
    let rest = c.pop.new.self.items in
    let e = c.in-Some.equation in
    let t = subst (λ o. Turns (signature_in q c.args.sig.now) (solved_in q F) fuel depth (St ts (equation_in (tree q) e ∷ equations_of q rest) ss) (next_in v o y)) c.in_default-2.is c.in_ok-ending.ensures.is in
    let u = turn_at c.loop-equation.invariant.extends c.args.sig.now c.requires.stands F c.requires.solutions fuel depth ts x.equations.items rest e ss (Goes (state_in v y)) c.in-Some.ensures.items t in
    fewer_turns c.args.pool.now c.args.sig.now F fuel depth c.requires.solutions c.requires.acyclic (state_in q x) (state_in v y) u

pub loop-equation-preserved : goal.loop-equation-preserved
loop-equation-preserved g c =
    let p = c.args.pool.now in
    let q = c.loop-equation.pool in
    let v = c.turn.new.pool in
    let F : ℕ → Option ℕ = g.S.Solutions.solution c.args.sol.now in
    let G = signature_in p c.args.sig.now in
    let s = solved_in p F in
    let fuel = c.args.limits.fuel in
    let depth = c.args.limits.depth in
    let i = c.loop-equation.invariant in
    let x = c.loop-equation.state in
    let y = c.turn.new.state in
    let ts = map (tree q) x.types.items in
    let ss = solutions_of q x.solutions.items in
    let rest = c.pop.new.self.items in
    let e = c.in-Some.equation in
    let t = subst (λ o. Turns (signature_in q c.args.sig.now) (solved_in q F) fuel depth (St ts (equation_in (tree q) e ∷ equations_of q rest) ss) (next_in v o y)) c.in_default-2.is c.in_ok-ending.ensures.is in
    let u = turn_at i.extends c.args.sig.now c.requires.stands F c.requires.solutions fuel depth ts x.equations.items rest e ss (Goes (state_in v y)) c.in-Some.ensures.items t in
    record {
      extends = Extends-trans i.extends c.turn.ensures.extends;
      below = c.in_ok-ending.ensures.below;
      count = c.in_ok-ending.ensures.count ∙ i.count;
      settled = solved_smaller i.extends F c.requires.solutions (λ s. AllSettled s v y.equations.items) c.in_ok-ending.ensures.settled;
      leads = leads-on G s fuel depth (context_in p c.args.context.now) (equations_in p c.args.equations.now) (state_in q x) (state_in v y) u i.leads;
    }

pub returns-clause-answer : goal.returns-clause-answer
returns-clause-answer g c = λ f h.
    let p = c.args.pool.now in
    let q = c.loop-equation.pool in
    let G = signature_in p c.args.sig.now in
    let s = solved_in p (g.S.Solutions.solution c.args.sol.now) in
    let fuel = c.args.limits.fuel in
    let depth = c.args.limits.depth in
    let C = context_in p c.args.context.now in
    let es = equations_in p c.args.equations.now in
    let i = c.loop-equation.invariant in
    let x = c.loop-equation.state in
    let ts = map (tree q) x.types.items in
    let ss = solutions_of q x.solutions.items in
    let none : x.equations.items ≡ [] = nil_from_length _ (omega (arith, c.in_default.ensures.cases.0, x.equations.ok.0)) in
    record {
      types = ts;
      solutions = ss;
      is = leads-done G s fuel depth C es ts ss (subst (λ ds. Leads G s fuel depth C es (St ts (equations_of q ds) ss)) none i.leads) f h;
      stands = c.in_ok-branch.ensures.below;
      branch = c.in_ok-branch.ensures.is (replace f) ∙ ap (λ d. branch_of (telescope_map (replace f) d) ts ss) (context_stays p q c.args.context.now i.extends c.requires.context);
    }
