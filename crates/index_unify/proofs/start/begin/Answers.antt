use Rattle.std.specs.Prelude.{◌≡◌, ◌<◌, length, map, Option, ℕ}
use Rattle.std.specs.List.{AllByRecursion}
use Rattle.std.proofs.Common.{rules, sym, ap, subst, ◌∙◌}
use Rattle.core_rules.specs.InScope.{IsAcyclic}
use Rattle.core_rules.specs.Substitution.{replace}
use Rattle.core_rules.specs.Mapped.{telescope_map}
use Rattle.core_rules.specs.BoundedLaws.{IsFull}
use Rattle.core_rules.specs.Unification.{whole_types}
use Rattle.core_terms.specs.Solutions.{AreIn-stays}
use Rattle.index_unify.specs.Unified.{EquationStands, context_in, equation_in}
use Rattle.index_unify.proofs.Grown.{IdStands, id_in, ids, equations, all_more, still}
use Rattle.index_unify.specs.State.{AllSettled, replaced, solutions_of}
use Rattle.index_unify.proofs.Solving.{same_state}
use Rattle.index_unify.proofs.Ruled.{solved_larger, solved_smaller}
use Rattle.index_unify.proofs.start.begin.Goals as goal

pub instances-requires-clause-equations : goal.instances-requires-clause-equations
instances-requires-clause-equations g c = all_more EquationStands equation_in equations c.args.pool.now c.whole_types.new.pool c.whole_types.ensures.extends c.args.equations.now c.requires.equations

pub instances-requires-clause-solutions : goal.instances-requires-clause-solutions
instances-requires-clause-solutions g c = AreIn-stays c.whole_types.ensures.extends c.requires.solutions

pub instances-requires-clause-acyclic : goal.instances-requires-clause-acyclic
instances-requires-clause-acyclic g c = solved_larger c.whole_types.ensures.extends (g.S.Solutions.solution c.args.sol.now) c.requires.solutions IsAcyclic c.requires.acyclic

pub returns-clause-below : goal.returns-clause-below
returns-clause-below g c = record {
  types = all_more IdStands id_in ids c.whole_types.new.pool c.instances.new.pool c.instances.ensures.extends c.in_ok-types.types.items c.in_ok-types.ensures.below;
  equations = c.in_ok-equations.ensures.below;
  solutions = subst (AllByRecursion (λ y. y.value < length c.instances.new.pool.trees)) (sym c.new.ensures.items) tt;
}

pub returns-clause-settled : goal.returns-clause-settled
returns-clause-settled g c =
    solved_smaller c.whole_types.ensures.extends (g.S.Solutions.solution c.args.sol.now) c.requires.solutions (λ s. AllSettled s c.instances.new.pool c.in_ok-equations.equations.items) c.in_ok-equations.ensures.settled

pub returns-clause-is : goal.returns-clause-is
returns-clause-is g c = λ f x.
    let p = c.args.pool.now in
    let q = c.whole_types.new.pool in
    let v = c.instances.new.pool in
    let h : ℕ → Option ℕ = g.S.Solutions.solution c.args.sol.now in
    let w : c.as_slice.result.now ≡ c.args.context.now = search rules in
    same_state
    (still IdStands id_in ids q v c.instances.ensures.extends c.in_ok-types.types.items c.in_ok-types.ensures.below ∙ (c.in_ok-types.ensures.is f x ∙ ap (λ es. whole_types 0 (telescope_map (replace f) (context_in p es))) w))
    (c.in_ok-equations.ensures.is f (solved_larger c.whole_types.ensures.extends h c.requires.solutions (λ s. IsFull s f) x)
    ∙ ap (map (replaced f)) (still EquationStands equation_in equations p q c.whole_types.ensures.extends c.args.equations.now c.requires.equations))
    (ap (solutions_of v) c.new.ensures.items)
