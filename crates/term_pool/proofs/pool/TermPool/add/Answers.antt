use Rattle.std.proofs.Common.{sym, ◌∙◌, ap, subst, ◌≡◌, length, IfOk}
use Rattle.core_rules.specs.Term.{nameless}
use Rattle.term_pool.specs.Measures.{IsMeasured}
use Rattle.term_pool.specs.Pool.{Below, StandsFor, node_tree, tree, seen}
use Rattle.term_pool.proofs.Measured.{nameless-IsMeasured, nameless_twice}
use Rattle.term_pool.proofs.Plain.{Below-grows, node_tree-grows}
use Rattle.term_pool.proofs.pool.TermPool.add.Goals as goal

pub keep-requires-2-clause-measured : goal.keep-requires-2-clause-measured
keep-requires-2-clause-measured c =
    subst (λ p. IsMeasured (node_tree (tree p) c.plain-plain.result) c.measured-measures.result) (sym c.self.view_is)
    (subst (λ t. IsMeasured t c.measured-measures.result) (sym c.plain-plain.ensures.is)
    (nameless-IsMeasured (node_tree (tree c.args.self.now) c.args.node) c.measured-measures.result c.measured-measures.ensures))

pub keep-requires-2-clause-class : goal.keep-requires-2-clause-class
keep-requires-2-clause-class c =
    subst (λ p. nameless (node_tree (tree p) c.plain-plain.result) ≡ node_tree (tree p) c.plain-plain.result) (sym c.self.view_is)
    (ap nameless c.plain-plain.ensures.is ∙ (nameless_twice (node_tree (tree c.args.self.now) c.args.node) ∙ sym c.plain-plain.ensures.is))

pub keep-requires-3-clause-below : goal.keep-requires-3-clause-below
keep-requires-3-clause-below c =
    Below-grows (seen c.self.inside.nodes.keys) (seen c.keep-2.new.nodes.keys) c.keep-2.ensures.extends c.args.node
    (subst (λ p. Below (tree p) (length p.trees) c.args.node) (sym c.self.view_is) c.requires)

pub keep-requires-3-clause-measured : goal.keep-requires-3-clause-measured
keep-requires-3-clause-measured c =
    let p : seen c.self.inside.nodes.keys ≡ c.args.self.now = c.self.view_is in
    let b : Below (tree (seen c.self.inside.nodes.keys)) (length (seen c.self.inside.nodes.keys).trees) c.args.node = subst (λ p. Below (tree p) (length p.trees) c.args.node) (sym p) c.requires in
    subst (λ t. IsMeasured t c.measured-measures.result) (node_tree-grows (seen c.self.inside.nodes.keys) (seen c.keep-2.new.nodes.keys) c.keep-2.ensures.extends c.args.node b)
    (subst (λ p. IsMeasured (node_tree (tree p) c.args.node) c.measured-measures.result) (sym p) c.measured-measures.ensures)

pub keep-requires-3-clause-class : goal.keep-requires-3-clause-class
keep-requires-3-clause-class c =
    let p : seen c.self.inside.nodes.keys ≡ c.args.self.now = c.self.view_is in
    let b : Below (tree (seen c.self.inside.nodes.keys)) (length (seen c.self.inside.nodes.keys).trees) c.args.node = subst (λ p. Below (tree p) (length p.trees) c.args.node) (sym p) c.requires in
    subst (λ t. StandsFor (seen c.keep-2.new.nodes.keys) c.in_ok-class.class (nameless t))
    (node_tree-grows (seen c.self.inside.nodes.keys) (seen c.keep-2.new.nodes.keys) c.keep-2.ensures.extends c.args.node b)
    (subst (StandsFor (seen c.keep-2.new.nodes.keys) c.in_ok-class.class)
    (subst (λ p. node_tree (tree p) c.plain-plain.result ≡ nameless (node_tree (tree p) c.args.node)) (sym p) c.plain-plain.ensures.is) c.in_ok-class.ensures.stands)

pub returns-clause-stands : goal.returns-clause-stands
returns-clause-stands c =
    let p : seen c.self.inside.nodes.keys ≡ c.args.self.now = c.self.view_is in
    let b : Below (tree (seen c.self.inside.nodes.keys)) (length (seen c.self.inside.nodes.keys).trees) c.args.node = subst (λ p. Below (tree p) (length p.trees) c.args.node) (sym p) c.requires in
    let e : node_tree (tree (seen c.keep-2.new.nodes.keys)) c.args.node ≡ node_tree (tree c.args.self.now) c.args.node =
    sym (node_tree-grows (seen c.self.inside.nodes.keys) (seen c.keep-2.new.nodes.keys) c.keep-2.ensures.extends c.args.node b) ∙ ap (λ p. node_tree (tree p) c.args.node) p in
    subst (λ u. IfOk c.keep-3.result (λ t. StandsFor (seen c.keep-3.new.nodes.keys) t u)) e c.keep-3.ensures.stands
