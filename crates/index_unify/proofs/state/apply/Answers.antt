use Rattle.std.specs.Prelude.{◌++◌, length, map}
use Rattle.std.specs.List.{AllByRecursion}
use Rattle.std.proofs.Common.{sym, ap, subst, ◌∙◌}
use Rattle.el_base.proofs.Throughout.{all-append}
use Rattle.core_rules.specs.Unification.{St}
use Rattle.unify_rules.specs.Unifier as O
use Rattle.unify_rules.specs.Unifier.{after}
use Rattle.term_pool.specs.Pool.{tree}
use Rattle.index_unify.specs.Unified.{EquationStands}
use Rattle.index_unify.specs.State.{AllSettled, EquationSettled, RuleBelow, RuleSettled, equations_of, rule_in, solutions_of}
use Rattle.index_unify.proofs.Solving.{equations_append}
use Rattle.index_unify.proofs.state.apply.Goals as goal

pub solve-requires-clause-value : goal.solve-requires-clause-value
solve-requires-clause-value c = subst (RuleBelow (length c.args.pool.now.trees)) c.in-Solve.is c.requires.rule

pub returns-in-Ends-clause-ends : goal.returns-in-Ends-clause-ends
returns-in-Ends-clause-ends c = subst (RuleBelow (length c.args.pool.now.trees)) c.in-Ends.is c.requires.rule

pub returns-in-Delete-clause-is : goal.returns-in-Delete-clause-is
returns-in-Delete-clause-is c =
    let p = c.args.pool.now in
    ap (λ r. after (rule_in p r) (map (tree p) c.args.state.now.types.items) (equations_of p c.args.state.now.equations.items) (solutions_of p c.args.state.now.solutions.items)) (sym c.in-Delete.is)

pub returns-in-Ends-clause-is : goal.returns-in-Ends-clause-is
returns-in-Ends-clause-is c =
    let p = c.args.pool.now in
    ap (λ r. after (rule_in p r) (map (tree p) c.args.state.now.types.items) (equations_of p c.args.state.now.equations.items) (solutions_of p c.args.state.now.solutions.items)) (sym c.in-Ends.is)

pub returns-in_ok-solve-in-Solve-clause-is : goal.returns-in_ok-solve-in-Solve-clause-is
returns-in_ok-solve-in-Solve-clause-is c =
    let p = c.args.pool.now in
    ap O.Goes c.in_ok-solve-in-Solve.ensures.is
    ∙ ap (λ r. after (rule_in p r) (map (tree p) c.args.state.now.types.items) (equations_of p c.args.state.now.equations.items) (solutions_of p c.args.state.now.solutions.items)) (sym c.in-Solve.is)

pub returns-in_ok-solve-in-Solve-clause-settled : goal.returns-in_ok-solve-in-Solve-clause-settled
returns-in_ok-solve-in-Solve-clause-settled c = λ s h k. c.in_ok-solve-in-Solve.ensures.settled s (subst (RuleSettled s c.args.pool.now) c.in-Solve.is h) k

pub returns-in_ok-extend_from_slice-in-Inject-clause-below : goal.returns-in_ok-extend_from_slice-in-Inject-clause-below
returns-in_ok-extend_from_slice-in-Inject-clause-below c =
    let n = length c.args.pool.now.trees in
    let es = c.args.state.now.equations.items in
    let ds = c.in-Inject.equations.items in
    record {
      types = c.requires.state.types;
      equations = subst (AllByRecursion (EquationStands n)) (sym (c.in_ok-extend_from_slice-in-Inject.ensures.items ∙ ap (λ ds. es ++ ds) c.as_slice.ensures.value))
          (all-append (EquationStands n) es ds c.requires.state.equations (subst (RuleBelow n) c.in-Inject.is c.requires.rule));
      solutions = c.requires.state.solutions;
    }

pub returns-in_ok-extend_from_slice-in-Inject-clause-is : goal.returns-in_ok-extend_from_slice-in-Inject-clause-is
returns-in_ok-extend_from_slice-in-Inject-clause-is c =
    let p = c.args.pool.now in
    let ts = map (tree p) c.args.state.now.types.items in
    let es = c.args.state.now.equations.items in
    let ss = solutions_of p c.args.state.now.solutions.items in
    ap (λ ds. O.Goes (St ts ds ss)) (ap (equations_of p) (c.in_ok-extend_from_slice-in-Inject.ensures.items ∙ ap (λ ds. es ++ ds) c.as_slice.ensures.value) ∙ equations_append p es c.in-Inject.equations.items)
    ∙ ap (λ r. after (rule_in p r) ts (equations_of p es) ss) (sym c.in-Inject.is)

pub returns-in_ok-extend_from_slice-in-Inject-clause-settled : goal.returns-in_ok-extend_from_slice-in-Inject-clause-settled
returns-in_ok-extend_from_slice-in-Inject-clause-settled c = λ s h k.
    let p = c.args.pool.now in
    let es = c.args.state.now.equations.items in
    subst (AllSettled s p) (sym (c.in_ok-extend_from_slice-in-Inject.ensures.items ∙ ap (λ ds. es ++ ds) c.as_slice.ensures.value))
    (all-append (EquationSettled s p) es c.in-Inject.equations.items k (subst (RuleSettled s p) c.in-Inject.is h))
