use Rattle.std.proofs.Common.{◌∙◌, ap, ◌≡◌, ℕ, take, []}
use Rattle.term_pool.specs.Pool.{seen, AllFollow, cut_to}
use Rattle.term_pool.proofs.Seen.{seen-cut}
use Rattle.term_pool.proofs.Kept.{pool-cut}
use Rattle.term_pool.proofs.pool.TermPool.cut.Goals as goal
use Rattle.term_pool.proofs.pool.TermPool.cut.Goals.{After-truncate-2}

nodes_cut : (c : After-truncate-2) → c.truncate.new.self.keys ≡ take c.args.mark c.self.inside.nodes.keys
nodes_cut c = c.truncate.ensures.keys ∙ ap (λ (n : ℕ). take n c.self.inside.nodes.keys) c.mark.view_is

is_cut : (c : After-truncate-2) → AllFollow [] c.truncate.new.self.keys × (seen c.truncate.new.self.keys ≡ cut_to c.args.mark c.args.self.now)
is_cut c = seen-cut c.self.inside.nodes.keys _ c.args.self.now c.args.mark c.self.view_is c.self.invariant.follow (nodes_cut c)

pub invariant_of-self : goal.invariant_of-self
invariant_of-self c =
    let d = c.truncate-2.ensures.items ∙ ap (λ (n : ℕ). take n c.self.inside.known.items) c.mark.view_is in
    pool-cut c.self.inside.nodes.keys c.truncate.new.self.keys c.self.inside.known.items c.truncate-2.new.self.items c.args.mark c.self.invariant (nodes_cut c) d (is_cut c).0

pub returns : goal.returns
returns c = (is_cut c).1
