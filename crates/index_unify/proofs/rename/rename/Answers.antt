use Rattle.std.specs.Prelude.{◌≤◌, length, map}
use Rattle.std.proofs.Common.{arith, ap, ap₂, subst, ◌∙◌}
use Rattle.core_rules.specs.Substitution.{under}
use Rattle.term_pool.specs.Pool.{StandsFor, tree}
use Rattle.term_pool.specs.Reach.{reach}
use Rattle.term_pool.specs.Growth.{Extends-tree}
use Rattle.index_unify.proofs.Renamed.{renamed, renaming_grown}
use Rattle.index_unify.proofs.rename.rename.Goals as goal

pub returns-clause-is : goal.returns-clause-is
returns-clause-is c =
    let p = c.args.pool.now in
    let q = c.loop-pool.pool in
    let i = c.loop-pool.invariant in
    let is = c.loop-pool.renaming.terms.items in
    let t = tree p c.args.t in
    let l : reach t ≤ length is = omega (arith, c.reach-reach.ensures, c.loop-pool-test.false, c.len.ensures) in
    subst (StandsFor c.under.new.pool c.in_ok-made.made)
    (ap₂ under (ap (map (tree q)) c.as_slice.ensures.value) (Extends-tree c.args.t i.extends c.requires.t) ∙ renamed q c.args.renaming.now.keep.now is t i.renaming l)
    c.in_ok-made.ensures.is

pub returns-clause-renaming : goal.returns-clause-renaming
returns-clause-renaming c =
    renaming_grown c.loop-pool.pool c.under.new.pool c.in_ok-made.ensures.extends c.args.renaming.now.keep.now c.loop-pool.renaming.terms.items c.loop-pool.invariant.renaming
