use Rattle.std.proofs.Common.{length, ◌∙◌, sym}
use Rattle.term_pool.specs.Pool.{tree}
use Rattle.term_pool.proofs.Plain.{plain_below, plain_tree}
use Rattle.term_pool.proofs.pool.TermPool.plain.Goals as goal

pub returns-in-Two-clause-below : goal.returns-in-Two-clause-below
returns-in-Two-clause-below c =
    let f = tree c.args.self.now in
    rw (c.without_name.ensures, c.with_two.ensures) (plain_below f (length c.args.self.now.trees) c.in-Two.first c.in-Two.second c.in-Two.binds c.class.result c.class-in-Two.result
    c.class.ensures.within c.class-in-Two.ensures.within c.class.ensures.is c.class-in-Two.ensures.is c.args.node.now (sym c.parts.ensures ∙ c.in-Two.is) c.requires)

pub returns-in-Two-clause-is : goal.returns-in-Two-clause-is
returns-in-Two-clause-is c =
    let f = tree c.args.self.now in
    rw (c.without_name.ensures, c.with_two.ensures) (plain_tree f (length c.args.self.now.trees) c.in-Two.first c.in-Two.second c.in-Two.binds c.class.result c.class-in-Two.result
    c.class.ensures.within c.class-in-Two.ensures.within c.class.ensures.is c.class-in-Two.ensures.is c.args.node.now (sym c.parts.ensures ∙ c.in-Two.is))
