use Rattle.std.proofs.Common.{IfOk, map, subst}
use Rattle.term_pool.specs.Pool.{StandsFor, tree}
use Rattle.term_pool.proofs.Shifts.{placed_under}
use Rattle.term_pool.proofs.shifting.under.Goals as goal

pub returns-clause-is : goal.returns-clause-is
returns-clause-is c =
    subst (λ u. IfOk c.put_items.result (λ r. StandsFor c.put_items.new.pool r u)) (placed_under (map (tree c.args.pool.now) c.args.env.now) (tree c.args.pool.now c.args.t)) c.put_items.ensures.is
