use Rattle.std.specs.Prelude.{map}
use Rattle.term_pool.specs.Pool.{tree}
use Rattle.index_unify.proofs.rule.chosen.Goals as goal

pub returns-clause-is : goal.returns-clause-is
returns-clause-is c = let p = c.args.pool.now in c.later.ensures.is (map (tree p) c.args.types.now) p c.in_ok-first.ensures c.in_ok-second.ensures
