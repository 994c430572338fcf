use Rattle.std.specs.Prelude.{map, take}
use Rattle.core_rules.specs.Unification.{put_equation}
use Rattle.term_pool.specs.Pool.{Extends, tree}
use Rattle.index_unify.specs.Unified.{EquationStands, equation_in}
use Rattle.index_unify.proofs.Grown.{Made}
use Rattle.index_unify.proofs.put.put_in_equations.Given as goal

abbrev pub invariant-loop-equation : goal.invariant-loop-equation
invariant-loop-equation l = record {
  extends : Extends l.fn.pool l.pool;
  made : Made EquationStands equation_in l.pool l.all.items (map (put_equation l.solution.var (tree l.fn.pool l.solution.value)) (map (equation_in (tree l.fn.pool)) (take l.equation-index l.equations)));
}
