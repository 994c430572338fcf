use Rattle.core_rules.specs.Substitution.{replace}
use Rattle.core_rules.specs.Mapped.{telescope_map}
use Rattle.unify_rules.specs.Unifier.{UnifyOf}
use Rattle.core_terms.specs.Signature.{signature_in}
use Rattle.index_unify.specs.Unified.{context_in, equations_in}
use Rattle.index_unify.proofs.Turned.{answered_by}
use Rattle.index_unify.proofs.unifying.unify.Goals as goal

pub returns-in-Ok-clause-unified : goal.returns-in-Ok-clause-unified
returns-in-Ok-clause-unified g c = λ f x.
    let p = c.args.pool.now in
    answered_by (UnifyOf (signature_in p c.args.sig.now) f c.args.limits.fuel c.args.limits.depth (context_in p c.args.context.now) (equations_in p c.args.equations.now)) c.run.new.pool
    (telescope_map (replace f) (context_in p c.args.context.now)) c.in-Ok.answer (c.in-Ok.ensures.answer f x)
