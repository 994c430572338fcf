use Rattle.std.specs.Prelude.{◌+◌, length, map, take}
use Rattle.std.proofs.Common.{arith, ap, ap₂, ◌∙◌}
use Rattle.core_rules.specs.Unification.{put, put_in_solution}
use Rattle.term_pool.specs.Pool.{tree}
use Rattle.term_pool.specs.Growth.{Extends-trans, Extends-length, Extends-tree}
use Rattle.index_unify.specs.declared.equation.Solution.{Solution}
use Rattle.index_unify.specs.State.{solution_in}
use Rattle.index_unify.proofs.Grown.{SolutionStands, solutions, solved_as, pushed, item_has, item_next, all_taken}
use Rattle.index_unify.proofs.put.put_in_solutions.Goals as goal

pub put-requires-clause-value : goal.put-requires-clause-value
put-requires-clause-value c = omega (arith, Extends-length c.loop-earlier.invariant.extends, c.requires.value)

pub put-requires-clause-t : goal.put-requires-clause-t
put-requires-clause-t c =
    omega (arith, Extends-length c.loop-earlier.invariant.extends, item_has c.args.solutions.now c.loop-earlier.earlier-index c.earlier-item.result c.loop-earlier-test.true c.earlier-item.is (SolutionStands (length c.args.pool.now.trees)) c.requires.solutions)

pub loop-earlier-preserved : goal.loop-earlier-preserved
loop-earlier-preserved c =
    let p = c.args.pool.now in
    let q = c.loop-earlier.pool in
    let r = c.put.new.pool in
    let i = c.loop-earlier.invariant in
    let n = c.loop-earlier.earlier-index in
    let ss = c.args.solutions.now in
    let x = c.args.solution.now.var in
    let u = c.args.solution.now.value in
    let s = c.earlier-item.result in
    let h = item_has ss n s c.loop-earlier-test.true c.earlier-item.is (SolutionStands (length p.trees)) c.requires.solutions in
    let e = c.in_ok-value.ensures.is.is ∙ ap₂ (put x) (Extends-tree u i.extends c.requires.value) (Extends-tree s.value i.extends h) in
    let made : Solution = record { var = s.var; value = c.in_ok-value.value } in
    record {
      extends = Extends-trans i.extends c.put.ensures.extends;
      made = pushed SolutionStands solution_in solutions q r c.put.ensures.extends c.loop-earlier.all.items c.push.new.self.items (map (put_in_solution x (tree p u)) (map (solution_in (tree p)) (take n ss))) (map (put_in_solution x (tree p u)) (map (solution_in (tree p)) (take (n + 1) ss)))
          made (put_in_solution x (tree p u) (solution_in (tree p) s)) i.made c.in_ok-value.ensures.is.within (ap (solved_as s.var) e) c.in_ok-push.ensures.items (item_next ss n s c.loop-earlier-test.true c.earlier-item.is (solution_in (tree p)) (put_in_solution x (tree p u)));
    }

pub returns-clause-below : goal.returns-clause-below
returns-clause-below c = c.loop-earlier.invariant.made.within

pub returns-clause-is : goal.returns-clause-is
returns-clause-is c =
    let p = c.args.pool.now in
    c.loop-earlier.invariant.made.is ∙ ap (λ ss. map (put_in_solution c.args.solution.now.var (tree p c.args.solution.now.value)) (map (solution_in (tree p)) ss)) (all_taken c.args.solutions.now c.loop-earlier.earlier-index (omega arith))
