use Rattle.std.specs.Prelude.{length, map, refl}
use Rattle.std.specs.List.{AllByRecursion}
use Rattle.std.proofs.Common.{arith, sym, ap, subst, ◌∙◌}
use Rattle.core_rules.specs.Unification.{put, put_equation, put_in_solution}
use Rattle.term_pool.specs.Pool.{tree}
use Rattle.term_pool.specs.Growth.{Extends-trans, Extends-length}
use Rattle.index_unify.specs.Unified.{EquationStands, equation_in}
use Rattle.index_unify.specs.State.{solution_in}
use Rattle.el_base.proofs.Throughout.{all-push}
use Rattle.index_unify.proofs.Grown.{IdStands, id_in, ids, SolutionStands, equations, solutions, all_more}
use Rattle.index_unify.proofs.Settled.{put_settled}
use Rattle.index_unify.proofs.Solving.{equations_are, solved_state}
use Rattle.index_unify.proofs.Turned.{as_many}
use Rattle.index_unify.proofs.state.solve.Goals as goal

pub put_in_equations-requires-clause-value : goal.put_in_equations-requires-clause-value
put_in_equations-requires-clause-value c = omega (arith, Extends-length c.put_in_terms.ensures.extends, c.requires.value)

pub put_in_equations-requires-clause-equations : goal.put_in_equations-requires-clause-equations
put_in_equations-requires-clause-equations c =
    subst (AllByRecursion (EquationStands (length c.put_in_terms.new.pool.trees))) (sym c.as_slice-2.ensures.value)
    (all_more EquationStands equation_in equations c.args.pool.now c.put_in_terms.new.pool c.put_in_terms.ensures.extends c.args.state.now.equations.items c.requires.state.equations)

pub put_in_solutions-requires-clause-value : goal.put_in_solutions-requires-clause-value
put_in_solutions-requires-clause-value c = omega (arith, Extends-length c.put_in_terms.ensures.extends, Extends-length c.put_in_equations.ensures.extends, c.requires.value)

pub put_in_solutions-requires-clause-solutions : goal.put_in_solutions-requires-clause-solutions
put_in_solutions-requires-clause-solutions c =
    subst (AllByRecursion (SolutionStands (length c.put_in_equations.new.pool.trees))) (sym c.as_slice-3.ensures.value)
    (all_more SolutionStands solution_in solutions c.args.pool.now c.put_in_equations.new.pool (Extends-trans c.put_in_terms.ensures.extends c.put_in_equations.ensures.extends) c.args.state.now.solutions.items c.requires.state.solutions)

pub returns-clause-is : goal.returns-clause-is
returns-clause-is c =
    let p = c.args.pool.now in
    let q = c.put_in_terms.new.pool in
    let r = c.put_in_equations.new.pool in
    let v = c.put_in_solutions.new.pool in
    let s = c.args.solution in
    let x = c.args.state.now in
    let a = c.in_ok-state.ensures.is ∙ ap (λ ts. map (put s.var (tree p s.value)) (map (tree p) ts)) c.as_slice.ensures.value in
    let b = c.in_ok-state-2.ensures.is ∙ ap (λ es. map (put_equation s.var (tree q s.value)) (map (equation_in (tree q)) es)) c.as_slice-2.ensures.value in
    let d = c.in_ok-solutions.ensures.is ∙ ap (λ ss. map (put_in_solution s.var (tree r s.value)) (map (solution_in (tree r)) ss)) c.as_slice-3.ensures.value in
    solved_state p q r v c.put_in_terms.ensures.extends c.put_in_equations.ensures.extends c.put_in_solutions.ensures.extends s.var s.value c.requires.value
    x.types.items c.in_ok-state.field-0.items x.equations.items c.in_ok-state-2.field-0.items x.solutions.items c.in_ok-solutions.solutions.items c.push.new.self.items s refl refl c.in_ok-push.ensures.items
    c.in_ok-state.ensures.below c.requires.state.equations c.in_ok-state-2.ensures.below c.requires.state.solutions c.in_ok-solutions.ensures.below a b d

pub returns-clause-below : goal.returns-clause-below
returns-clause-below c =
    let pq = c.put_in_terms.ensures.extends in
    let qr = c.put_in_equations.ensures.extends in
    let rv = c.put_in_solutions.ensures.extends in
    let v = c.put_in_solutions.new.pool in
    record {
      types = all_more IdStands id_in ids c.put_in_terms.new.pool v (Extends-trans qr rv) c.in_ok-state.field-0.items c.in_ok-state.ensures.below;
      equations = all_more EquationStands equation_in equations c.put_in_equations.new.pool v rv c.in_ok-state-2.field-0.items c.in_ok-state-2.ensures.below;
      solutions =
          subst (AllByRecursion (SolutionStands (length v.trees))) (sym c.in_ok-push.ensures.items)
          (all-push (SolutionStands (length v.trees)) c.in_ok-solutions.solutions.items c.args.solution c.in_ok-solutions.ensures.below (omega (arith, Extends-length pq, Extends-length qr, Extends-length rv, c.requires.value)));
    }

pub returns-clause-count : goal.returns-clause-count
returns-clause-count c =
    let p = c.args.pool.now in
    let s = c.args.solution in
    let a = c.in_ok-state.ensures.is ∙ ap (λ ts. map (put s.var (tree p s.value)) (map (tree p) ts)) c.as_slice.ensures.value in
    as_many (tree c.put_in_terms.new.pool) (put s.var (tree p s.value)) (tree p) c.in_ok-state.field-0.items c.args.state.now.types.items a

pub returns-clause-settled : goal.returns-clause-settled
returns-clause-settled c = λ o h k.
    let p = c.args.pool.now in
    let q = c.put_in_terms.new.pool in
    let r = c.put_in_equations.new.pool in
    let v = c.put_in_solutions.new.pool in
    let s = c.args.solution in
    let x = c.args.state.now in
    let b = c.in_ok-state-2.ensures.is ∙ ap (λ es. map (put_equation s.var (tree q s.value)) (map (equation_in (tree q)) es)) c.as_slice-2.ensures.value in
    put_settled o p v s.var (tree p s.value) x.equations.items c.in_ok-state-2.field-0.items
    (equations_are p q r v c.put_in_terms.ensures.extends c.put_in_equations.ensures.extends c.put_in_solutions.ensures.extends s.var s.value c.requires.value x.equations.items c.in_ok-state-2.field-0.items c.requires.state.equations c.in_ok-state-2.ensures.below b) h k
