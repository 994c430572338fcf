use Rattle.std.specs.Prelude.{map, take}
use Rattle.core_rules.specs.Unification.{put_in_solution}
use Rattle.term_pool.specs.Pool.{Extends, tree}
use Rattle.index_unify.specs.State.{solution_in}
use Rattle.index_unify.proofs.Grown.{SolutionStands, Made}
use Rattle.index_unify.proofs.put.put_in_solutions.Given as goal

abbrev pub invariant-loop-earlier : goal.invariant-loop-earlier
invariant-loop-earlier l = record {
  extends : Extends l.fn.pool l.pool;
  made : Made SolutionStands solution_in l.pool l.all.items (map (put_in_solution l.solution.var (tree l.fn.pool l.solution.value)) (map (solution_in (tree l.fn.pool)) (take l.earlier-index l.solutions)));
}
