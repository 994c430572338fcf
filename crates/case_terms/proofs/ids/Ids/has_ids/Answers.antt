use Rattle.std.proofs.Common.{ap, subst, ◌∙◌, rules}
use Rattle.term_pool.specs.Pool.{tree, node_tree}
use Rattle.case_terms.specs.Known.{HasIds}
use Rattle.case_terms.proofs.Scopes.{known_con, known_meta}
use Rattle.case_terms.proofs.ids.Ids.has_ids.Goals as goal

pub returns-else-not-is_marked : goal.returns-else-not-is_marked
returns-else-not-is_marked c =
    let x = c.args.self.now in
    let m = subst (λ i. HasIds x (tree x.pool.now i)) c.list.ensures (c.is_marked-in-Con.ensures (search rules)) in
    known_con x c.args.t c.in-Con.params m c.in-Con.con c.takes.result (c.node.ensures.is ∙ ap (node_tree (tree x.pool.now)) c.in-Con.is) c.takes.ensures

pub returns-in-Meta : goal.returns-in-Meta
returns-in-Meta c = λ b.
    let x = c.args.self.now in
    let m = subst (λ i. HasIds x (tree x.pool.now i)) c.list-in-Meta.ensures (c.is_marked-in-Meta.ensures b) in
    known_meta x c.args.t c.in-Meta.args m c.in-Meta.meta (c.node.ensures.is ∙ ap (node_tree (tree x.pool.now)) c.in-Meta.is)
