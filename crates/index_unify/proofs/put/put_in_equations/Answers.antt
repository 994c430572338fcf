use Rattle.std.specs.Prelude.{◌+◌, length, map, take}
use Rattle.std.proofs.Common.{arith, ap, ap₂, ◌∙◌}
use Rattle.core_rules.specs.Unification.{put, put_equation, eq}
use Rattle.term_pool.specs.Pool.{tree}
use Rattle.term_pool.specs.Growth.{Extends-trans, Extends-length, Extends-tree}
use Rattle.index_unify.specs.declared.equation.Equation.{Equation}
use Rattle.index_unify.specs.Unified.{EquationStands, equation_in}
use Rattle.index_unify.proofs.Grown.{equations, pushed, item_has, item_next, all_taken}
use Rattle.index_unify.proofs.put.put_in_equations.Goals as goal

pub put-requires-clause-value : goal.put-requires-clause-value
put-requires-clause-value c = omega (arith, Extends-length c.loop-equation.invariant.extends, c.requires.value)

pub put-requires-clause-t : goal.put-requires-clause-t
put-requires-clause-t c =
    let h = item_has c.args.equations.now c.loop-equation.equation-index c.equation-item.result c.loop-equation-test.true c.equation-item.is (EquationStands (length c.args.pool.now.trees)) c.requires.equations in
    omega (arith, Extends-length c.loop-equation.invariant.extends, h.0)

pub put-requires-in-loop-equation-clause-value : goal.put-requires-in-loop-equation-clause-value
put-requires-in-loop-equation-clause-value c = omega (arith, Extends-length c.loop-equation.invariant.extends, Extends-length c.put.ensures.extends, c.requires.value)

pub put-requires-in-loop-equation-clause-t : goal.put-requires-in-loop-equation-clause-t
put-requires-in-loop-equation-clause-t c =
    let h = item_has c.args.equations.now c.loop-equation.equation-index c.equation-item.result c.loop-equation-test.true c.equation-item.is (EquationStands (length c.args.pool.now.trees)) c.requires.equations in
    omega (arith, Extends-length c.loop-equation.invariant.extends, Extends-length c.put.ensures.extends, h.1)

pub loop-equation-preserved : goal.loop-equation-preserved
loop-equation-preserved c =
    let p = c.args.pool.now in
    let q = c.loop-equation.pool in
    let r = c.put.new.pool in
    let v = c.put-in-loop-equation.new.pool in
    let i = c.loop-equation.invariant in
    let n = c.loop-equation.equation-index in
    let es = c.args.equations.now in
    let x = c.args.solution.now.var in
    let u = c.args.solution.now.value in
    let e = c.equation-item.result in
    let h = item_has es n e c.loop-equation-test.true c.equation-item.is (EquationStands (length p.trees)) c.requires.equations in
    let qr = c.put.ensures.extends in
    let rv = c.put-in-loop-equation.ensures.extends in
    let pr = Extends-trans i.extends qr in
    let l = Extends-tree c.in_ok-left.left rv c.in_ok-left.ensures.is.within ∙ (c.in_ok-left.ensures.is.is ∙ ap₂ (put x) (Extends-tree u i.extends c.requires.value) (Extends-tree e.left i.extends h.0)) in
    let m = c.in_ok-right.ensures.is.is ∙ ap₂ (put x) (Extends-tree u pr c.requires.value) (Extends-tree e.right pr h.1) in
    let made : Equation = record { left = c.in_ok-left.left; right = c.in_ok-right.right } in
    record {
      extends = Extends-trans pr rv;
      made = pushed EquationStands equation_in equations q v (Extends-trans qr rv) c.loop-equation.all.items c.push.new.self.items (map (put_equation x (tree p u)) (map (equation_in (tree p)) (take n es))) (map (put_equation x (tree p u)) (map (equation_in (tree p)) (take (n + 1) es)))
          made (put_equation x (tree p u) (equation_in (tree p) e)) i.made (omega (arith, c.in_ok-left.ensures.is.within, Extends-length rv), c.in_ok-right.ensures.is.within) (ap₂ eq l m) c.in_ok-push.ensures.items (item_next es n e c.loop-equation-test.true c.equation-item.is (equation_in (tree p)) (put_equation x (tree p u)));
    }

pub returns-clause-below : goal.returns-clause-below
returns-clause-below c = c.loop-equation.invariant.made.within

pub returns-clause-is : goal.returns-clause-is
returns-clause-is c =
    let p = c.args.pool.now in
    c.loop-equation.invariant.made.is ∙ ap (λ es. map (put_equation c.args.solution.now.var (tree p c.args.solution.now.value)) (map (equation_in (tree p)) es)) (all_taken c.args.equations.now c.loop-equation.equation-index (omega arith))
