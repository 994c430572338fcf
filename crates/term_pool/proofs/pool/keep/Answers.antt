use Rattle.std.proofs.Common.{◌∙◌, ap, arith, length, ℕ, ◌≡◌, ◌+◌, ◌∷◌, ◌++◌, [], sym, subst}
use Rattle.std.specs.Option.{unwrap_or}
use Rattle.term_pool.specs.declared.measures.Known.{Known}
use Rattle.term_pool.specs.Pool.{ArePool, StandsFor, node_tree, tree, seen}
use Rattle.term_pool.proofs.Once.{Adds, adds}
use Rattle.term_pool.proofs.Kept.{nodes-new, nodes-cut, pool-new}
use Rattle.term_pool.proofs.pool.keep.Goals as goal
use Rattle.term_pool.proofs.pool.keep.Goals.{In_ok-at}

added : (c : In_ok-at) → Adds (seen c.args.nodes.now.keys) c.args.node c.in_ok-at.at c.insert_full.new.self.keys
added c =
    let s = c.in_ok-at.ensures.stored in
    adds c.args.nodes.now.keys c.insert_full.new.self.keys c.in_ok-at.at c.args.node s.0 c.requires.pool.follow c.in_ok-at.ensures.keys s.1 s.2 c.requires.below

stands : (c : In_ok-at) → StandsFor (seen c.insert_full.new.self.keys) c.in_ok-at.at (node_tree (tree (seen c.args.nodes.now.keys)) c.args.node)
stands c = (added c).stands

pub returns-then-not-is_new-clause-stands : goal.returns-then-not-is_new-clause-stands
returns-then-not-is_new-clause-stands c = subst (λ t. StandsFor (seen c.insert_full.new.self.keys) t (node_tree (tree (seen c.args.nodes.now.keys)) c.args.node)) (sym c.new-id.ensures) (stands (goal.at.returns-then-not-is_new-clause-stands c).In_ok-at)

pub returns-then-count-ge-MOST-clause-pool : goal.returns-then-count-ge-MOST-clause-pool
returns-then-count-ge-MOST-clause-pool c =
    subst (λ ns. ArePool ns c.args.known.now.items) (sym (c.truncate.ensures.keys ∙ nodes-cut c.args.nodes.now.keys c.insert_full.new.self.keys c.args.node c.in_ok-at.ensures.keys c.len-count.result c.len-count.ensures.len)) c.requires.pool

pub returns-in_default-clause-pool : goal.returns-in_default-clause-pool
returns-in_default-clause-pool c =
    let h = c.truncate-in_default.ensures.keys ∙ nodes-cut c.args.nodes.now.keys c.insert_full.new.self.keys c.args.node c.in_ok-at.ensures.keys c.len-count.result c.len-count.ensures.len in
    let k : c.push.new.self.items ≡ c.args.known.now.items = rw c.in_default.is at c.push.ensures.items in
    subst (λ ns. ArePool ns c.push.new.self.items) (sym h) (subst (ArePool c.args.nodes.now.keys) (sym k) c.requires.pool)

pub returns-clause-pool : goal.returns-clause-pool
returns-clause-pool c =
    let n : length c.insert_full.new.self.keys ≡ length c.args.nodes.now.keys + 1 = rw c.if-not-is_new.false at c.in_ok-at.ensures.len in
    let known : ℕ → Known = λ j. record { measures = c.args.measures; class = j } in
    let k : c.push.new.self.items ≡ c.args.known.now.items ++ known (unwrap_or c.args.class c.new.result) ∷ [] =
    (rw c.in-Ok.is at c.push.ensures.items) ∙ ap (λ j. c.args.known.now.items ++ known j ∷ []) c.unwrap_or-class.ensures in
    pool-new c.args.nodes.now.keys c.insert_full.new.self.keys c.args.known.now.items c.push.new.self.items c.args.node c.args.measures c.args.class c.new.result
    c.requires.pool (omega arith) (nodes-new c.args.nodes.now.keys c.insert_full.new.self.keys c.args.node c.in_ok-at.ensures.keys n) (c.new.ensures ∙ c.len-count.ensures.len)
    k c.requires.below c.requires.measured c.requires.class

pub returns-clause-extends : goal.returns-clause-extends
returns-clause-extends c = (added (goal.at.returns-clause-extends c).In_ok-at).extends

pub returns-clause-stands : goal.returns-clause-stands
returns-clause-stands c = subst (λ t. StandsFor (seen c.insert_full.new.self.keys) t (node_tree (tree (seen c.args.nodes.now.keys)) c.args.node)) (sym c.new-id.ensures) (stands (goal.at.returns-clause-stands c).In_ok-at)
