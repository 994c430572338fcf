use Rattle.std.proofs.Common.{◌≡◌, ◌<◌, ◌≤◌, ℕ, List, take, length, sym, ap, ◌∙◌, subst, take_all, arith}
use Rattle.std.specs.List.{IsDistinct}
use Rattle.std.proofs.lemmas.Grind.{common_steps}
use Rattle.indexmap.specs.IndexSet.{insert_key}
use Rattle.term_pool.specs.declared.node.Node.{Node}
use Rattle.term_pool.specs.Pool.{ArePool, seen}
use Rattle.term_pool.proofs.Once.{node_eq, inserted-next}
use Rattle.term_pool.proofs.pool.TermPool.copy.Goals as goal

pub loop-node-init : goal.loop-node-init
loop-node-init c = let l = c.new-nodes.ensures.len in grind (arith, common_steps)

pub loop-node-preserved : goal.loop-node-preserved
loop-node-preserved c =
    let items = c.as_slice-node-items.result.now in
    let l : c.loop-node.node-index < length items = omega arith in
    let apart : IsDistinct node_eq items = subst (IsDistinct node_eq) (sym c.as_slice-node-items.ensures.keys) c.as_slice-node-items.ensures.unique in
    c.in_ok-insert.ensures.keys
    ∙ (ap (λ ks. insert_key node_eq ks c.node-item.result) c.loop-node.invariant
    ∙ inserted-next items c.loop-node.node-index c.node-item.result apart l c.node-item.is)

copied : (ks items ns : List Node) (i : ℕ) → ns ≡ take i items → length items ≤ i → items ≡ ks → ns ≡ ks
copied ks items ns i e l k = e ∙ (take_all i items l ∙ k)

pub invariant_of-result : goal.invariant_of-result
invariant_of-result c =
    let l : length c.as_slice-node-items.result.now ≤ c.loop-node.node-index = omega arith in
    let e = copied _ c.as_slice-node-items.result.now _ c.loop-node.node-index c.loop-node.invariant l c.as_slice-node-items.ensures.keys in
    let k : c.in_ok-known.known.items ≡ c.self.inside.known.items = c.in_ok-known.ensures.items ∙ c.as_slice.ensures.value in
    subst (λ ns. ArePool ns c.in_ok-known.known.items) (sym e) (subst (ArePool c.self.inside.nodes.keys) (sym k) c.self.invariant)

pub returns : goal.returns
returns c =
    let l : length c.as_slice-node-items.result.now ≤ c.loop-node.node-index = omega arith in
    ap seen (copied _ c.as_slice-node-items.result.now _ c.loop-node.node-index c.loop-node.invariant l c.as_slice-node-items.ensures.keys) ∙ c.self.view_is
