use Rattle.std.proofs.Common.{ap₂, subst}
use Rattle.core_rules.specs.Substitution.{under as put}
use Rattle.term_pool.specs.Pool.{StandsFor}
use Rattle.term_pool.specs.Placed.{items-stay}
use Rattle.term_pool.specs.Growth.{Extends-tree}
use Rattle.tree_kernel.proofs.reader.Reader.both_under.Goals as goal

pub returns-clause-left : goal.returns-clause-left
returns-clause-left c =
    let p = c.args.self.now.pool.now in
    let e = c.in_ok-ty.ensures.extends in
    subst (StandsFor c.under-2.new.pool c.in_ok-left.left)
    (ap₂ put (items-stay p c.under.new.pool c.args.env.now e c.requires.env) (Extends-tree c.args.left e c.requires.left)) c.in_ok-left.ensures.is
