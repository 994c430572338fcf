use Rattle.std.proofs.Common.{sym, ◌∙◌}
use Rattle.term_pool.proofs.Seen.{seen-length}
use Rattle.term_pool.proofs.pool.TermPool.mark.Goals as goal

pub returns : goal.returns
returns c = c.len.ensures.len ∙ sym (seen-length c.self.inside.nodes.keys c.args.self.now c.self.view_is)
