use Rattle.std.proofs.Common.{subst}
use Rattle.core_rules.specs.Elimination.{elims}
use Rattle.weak_head.specs.Elims.{spine_in}
use Rattle.term_pool.specs.Pool.{tree}
use Rattle.conversion.specs.Arguments.{AreLike}
use Rattle.conversion.proofs.parts.fields_like.Goals as goal

pub returns-clause-is : goal.returns-clause-is
returns-clause-is c =
    let f = tree c.projected.new.pool in
    let o = c.in_ok-found.found in
    subst (λ fs. AreLike f fs (elims (tree c.args.pool.now c.args.form.now.head) (spine_in (tree c.args.pool.now) c.args.form.now.spine.items)) c.args.value.now.spine.items o) (c.fields_of.ensures c.args.pool.now)
    (subst (λ t. AreLike f c.fields_of.result.now t c.args.value.now.spine.items o) c.in_ok-of.ensures.is.is
    (subst (λ ys. AreLike f c.fields_of.result.now (tree c.applied.new.pool c.in_ok-of.of) ys o) c.as_slice.ensures c.in_ok-found.ensures.is))
