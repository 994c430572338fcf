use Rattle.std.proofs.Common.{sym, ◌∙◌, ◌<◌, ℕ, length, arith, subst}
use Rattle.std.specs.List.{AllByRecursion}
use Rattle.std.proofs.lemmas.Result.{on_ok_weaker}
use Rattle.el_base.proofs.Throughout.{all-append}
use Rattle.term_pool.specs.Pool.{Pool, Below, tree}
use Rattle.term_pool.specs.declared.node.Node.{Node}
use Rattle.term_pool.specs.Growth.{Extends-refl}
use Rattle.term_pool.specs.Shifted.{within-stays}
use Rattle.core_terms.specs.Solutions.{solved_in, IsInstance}
use Rattle.core_terms.proofs.Instances.{instance_none, instance_put, wanted_within}
use Rattle.term_pool.proofs.Plain.{Below-higher}
use Rattle.term_pool.proofs.Shifts.{always}
use Rattle.core_terms.proofs.instance.turn.Goals as goal

below : (p : Pool) (t : ℕ) (n : Node) → t < length p.trees → Below (tree p) t n → Below (tree p) (length p.trees) n
below p t n l h = Below-higher (tree p) t (length p.trees) (omega arith) n h

pub returns-then-not-has_meta-clause-made : goal.returns-then-not-has_meta-clause-made
returns-then-not-has_meta-clause-made g c =
    let p = c.args.pool.now in
    on_ok_weaker c.put.result (λ u. instance_put (Extends-refl p) c.requires.made c.requires.t (instance_none p _ c.args.t c.requires.t (sym c.has_meta.ensures ∙ c.if-not-has_meta.true)) u) c.put.ensures

pub returns-in_default-get-clause-pending : goal.returns-in_default-get-clause-pending
returns-in_default-get-clause-pending g c =
    let p = c.args.pool.now in
    on_ok_weaker c.wait.result (λ e. subst (AllByRecursion (λ i. i < length p.trees)) (sym e)
    (all-append (λ i. i < length p.trees) c.args.pending.now.items _ c.requires.pending (c.requires.t, ((wanted_within p (g.S.Solutions.solution c.args.sol.now) c.in-Some.parts.0 c.in-Some.parts.1 0 0 c.node-node.result c.requires.solutions (below p c.args.t c.node-node.result c.requires.t c.node-node.ensures.below) (sym c.wanted.ensures ∙ c.in-Some.is)).0, tt)))) c.wait.ensures

pub returns-in_default-get-2-clause-pending : goal.returns-in_default-get-2-clause-pending
returns-in_default-get-2-clause-pending g c =
    let p = c.args.pool.now in
    on_ok_weaker c.wait-in_default-get-2.result (λ e. subst (AllByRecursion (λ i. i < length p.trees)) (sym e)
    (all-append (λ i. i < length p.trees) c.args.pending.now.items _ c.requires.pending (c.requires.t, ((wanted_within p (g.S.Solutions.solution c.args.sol.now) c.in-Some.parts.0 c.in-Some.parts.1 0 0 c.node-node.result c.requires.solutions (below p c.args.t c.node-node.result c.requires.t c.node-node.ensures.below) (sym c.wanted.ensures ∙ c.in-Some.is)).1, tt)))) c.wait-in_default-get-2.ensures

pub returns-clause-made : goal.returns-clause-made
returns-clause-made g c =
    let p = c.args.pool.now in
    on_ok_weaker c.put-2.result (λ u. instance_put c.joined.ensures.extends c.requires.made c.requires.t
    (subst (λ t. IsInstance c.joined.new.pool (solved_in p (g.S.Solutions.solution c.args.sol.now)) t c.in_ok-made.made) (sym c.node-node.ensures.is) c.in_ok-made.ensures.is) u) c.put-2.ensures

pub returns-clause-pending : goal.returns-clause-pending
returns-clause-pending g c = always c.put-2.result (within-stays c.args.pool.now c.joined.new.pool c.args.pending.now.items c.joined.ensures.extends c.requires.pending)
