use Rattle.std.proofs.Common.{arith}
use Rattle.term_pool.proofs.Seen.{seen-length}
use Rattle.term_pool.proofs.Kept.{known-at}
use Rattle.term_pool.proofs.pool.TermPool.known.Goals as goal

pub index-requires : goal.index-requires
index-requires c = omega (arith, c.requires, c.number.ensures, c.self.invariant.count, c.self.inside.known.ok.0, seen-length c.self.inside.nodes.keys c.args.self.now c.self.view_is)

pub returns : goal.returns
returns c = known-at c.self.inside.nodes.keys c.self.inside.known.items c.args.self.now c.args.t c.number.result c.index.result.now c.self.view_is c.self.invariant c.requires c.number.ensures c.index.ensures
