use Rattle.std.proofs.Common.{sym, ◌∙◌}
use Rattle.term_pool.specs.Pool.{tree}
use Rattle.weak_head.specs.Elims.{spine_in}
use Rattle.conversion.proofs.Fields.{left_args, right_args}
use Rattle.conversion.proofs.parts.kind_parts.Goals as goal

pub left_parts-requires-clause-args : goal.left_parts-requires-clause-args
left_parts-requires-clause-args c =
    let f = tree c.args.pool.now in
    left_args (spine_in f c.args.left.now.spine.items) c.kind_of-first.result c.kind_of-second.result c.in-Left.fam (sym c.eta_of.ensures ∙ c.in-Left.is) (c.kind_of-first.ensures.args f)

pub right_parts-requires-clause-args : goal.right_parts-requires-clause-args
right_parts-requires-clause-args c =
    let f = tree c.args.pool.now in
    right_args (spine_in f c.args.right.now.spine.items) c.kind_of-first.result c.kind_of-second.result c.in-Right.fam (sym c.eta_of.ensures ∙ c.in-Right.is) (c.kind_of-second.ensures.args f)
