use Rattle.std.proofs.Common.{ap, sym, ◌∙◌, eqb-true, eq-eqb}
use Rattle.term_pool.specs.Pool.{tree}
use Rattle.term_pool.proofs.Once.{one_in}
use Rattle.term_pool.proofs.pool.TermPool.same_tree.Goals as goal

pub returns : goal.returns
returns c =
    let one = one_in c.self.inside.nodes.keys c.args.self.now c.args.t c.args.u c.self.view_is c.self.invariant.follow c.as_slice-nodes.ensures.unique c.requires.left c.requires.right in (
      λ r. ap (tree c.args.self.now) (sym c.number.ensures ∙ (eqb-true c.number.result c.number-2.result r ∙ c.number-2.ensures)),
      λ k. eq-eqb c.number.result c.number-2.result (c.number.ensures ∙ (one k ∙ sym c.number-2.ensures)),
    )
