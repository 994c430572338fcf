use Rattle.std.proofs.Common.{arith, ap, length, get_or, ◌∙◌}
use Rattle.term_pool.proofs.Seen.{seen-at, seen-length}
use Rattle.term_pool.proofs.pool.TermPool.at.Goals as goal

pub bounds-as_slice-number : goal.bounds-as_slice-number
bounds-as_slice-number c = omega (arith, c.requires, c.number.ensures, seen-length c.self.inside.nodes.keys c.args.self.now c.self.view_is, ap length c.as_slice.ensures.keys)

pub returns : goal.returns
returns c =
    seen-at c.self.inside.nodes.keys c.args.self.now c.args.t c.number.result c.index-as_slice-number.result c.self.view_is c.self.invariant.follow c.requires c.number.ensures
    (c.index-as_slice-number.is ∙ ap (λ ks. get_or ks c.number.result c.index-as_slice-number.result) c.as_slice.ensures.keys)
