use Rattle.std.specs.Prelude.{map, take}
use Rattle.core_rules.specs.Unification.{put}
use Rattle.term_pool.specs.Pool.{Extends, tree}
use Rattle.index_unify.proofs.Grown.{IdStands, id_in, Made}
use Rattle.index_unify.proofs.put.put_in_terms.Given as goal

abbrev pub invariant-loop-t : goal.invariant-loop-t
invariant-loop-t l = record {
  extends : Extends l.fn.pool l.pool;
  made : Made IdStands id_in l.pool l.all.items (map (put l.solution.var (tree l.fn.pool l.solution.value)) (map (tree l.fn.pool) (take l.t-index l.terms)));
}
