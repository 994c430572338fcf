use Rattle.core_rules.specs.Bounded.{full}
use Rattle.core_rules.proofs.Heads.FullSolutions.{full_is_full}
use Rattle.core_rules.specs.Substitution.{replace}
use Rattle.unify_rules.specs.Unifier.{UnifyOf}
use Rattle.index_unify.specs.Unified.{context_in, equations_in}
use Rattle.lhs_elab.specs.Elaborator.{signature_of, solved_of}
use Rattle.lhs_elab.proofs.Unifying.{unified-below}
use Rattle.lhs_elab.proofs.elaborator.Elaborator.ask.Goals as goal

pub returns-clause-below : goal.returns-clause-below
returns-clause-below g c =
    let x = c.args.self.now in
    let p = x.pool.now in
    let s = solved_of g.S.Solutions.solution x in
    let f = full s c.requires.ready.acyclic in
    unified-below p c.unify.new.pool c.args.context.now (replace f) (UnifyOf (signature_of x) f x.limits.fuel x.limits.depth (context_in p c.args.context.now) (equations_in p c.args.equations.now)) c.unify.result (c.unify.ensures.answer f (full_is_full s c.requires.ready.acyclic))
