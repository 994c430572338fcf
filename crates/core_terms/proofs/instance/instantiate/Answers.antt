use Rattle.std.proofs.Common.{sym, ◌∙◌, ◌<◌, length, arith, subst}
use Rattle.core_rules.specs.InScope.{IsAcyclic}
use Rattle.core_terms.specs.Solutions.{AreInstances, AreIn-stays, IsInstance, solved_in, solved_in-stays}
use Rattle.term_pool.specs.Growth.{Extends-length, Extends-tree, Extends-trans}
use Rattle.core_terms.proofs.Instances.{instance_none}
use Rattle.core_terms.proofs.instance.instantiate.Goals as goal

pub returns-then-not-has_meta-clause-is : goal.returns-then-not-has_meta-clause-is
returns-then-not-has_meta-clause-is g c = instance_none c.args.pool.now _ c.args.t c.requires.t (sym c.has_meta.ensures ∙ c.if-not-has_meta.true)

pub returns-in-Some-clause-is : goal.returns-in-Some-clause-is
returns-in-Some-clause-is g c =
    subst (λ t. IsInstance c.loop-turn.pool (solved_in c.args.pool.now (g.S.Solutions.solution c.args.sol.now)) t c.in-Some.made) (Extends-tree c.args.t c.loop-turn.invariant.extends c.requires.t)
    (c.loop-turn.invariant.made.at c.args.t c.in-Some.made (sym c.get.ensures ∙ c.in-Some.is)).1

pub turn-requires-clause-solutions : goal.turn-requires-clause-solutions
turn-requires-clause-solutions g c = AreIn-stays c.loop-turn.invariant.extends c.requires.solutions

pub turn-requires-clause-acyclic : goal.turn-requires-clause-acyclic
turn-requires-clause-acyclic g c =
    subst IsAcyclic (sym (solved_in-stays c.args.pool.now c.loop-turn.pool (g.S.Solutions.solution c.args.sol.now) c.loop-turn.invariant.extends c.requires.solutions)) c.requires.acyclic

pub turn-requires-clause-made : goal.turn-requires-clause-made
turn-requires-clause-made g c =
    subst (λ s. AreInstances s c.loop-turn.table c.loop-turn.pool) (sym (solved_in-stays c.args.pool.now c.loop-turn.pool (g.S.Solutions.solution c.args.sol.now) c.loop-turn.invariant.extends c.requires.solutions))
    c.loop-turn.invariant.made

pub loop-turn-preserved : goal.loop-turn-preserved
loop-turn-preserved g c = record {
  extends = Extends-trans c.loop-turn.invariant.extends c.turn.ensures.extends;
  made =
      subst (λ s. AreInstances s c.turn.new.table c.turn.new.pool) (solved_in-stays c.args.pool.now c.loop-turn.pool (g.S.Solutions.solution c.args.sol.now) c.loop-turn.invariant.extends c.requires.solutions)
      c.in_ok-turn.ensures.made;
  pending = c.in_ok-turn.ensures.pending;
}

pub turn-requires-clause-t : goal.turn-requires-clause-t
turn-requires-clause-t g c =
    let l : c.args.t < length c.loop-turn.pool.trees = omega (arith, Extends-length c.loop-turn.invariant.extends, c.requires.t) in
    c.last_or-next.ensures.within (length c.loop-turn.pool.trees) l c.loop-turn.invariant.pending

pub turn-requires-clause-pending : goal.turn-requires-clause-pending
turn-requires-clause-pending g c = c.last_or-next.ensures.others (length c.loop-turn.pool.trees) c.loop-turn.invariant.pending
