use Rattle.std.specs.Prelude.{length, IfOk}
use Rattle.std.proofs.Common.{subst}
use Rattle.core_rules.specs.Term.{Var}
use Rattle.unify_rules.specs.Joined.{value_or_place}
use Rattle.term_pool.specs.Pool.{StandsFor}
use Rattle.index_unify.proofs.Renamed.{renaming_grown, on_ok}
use Rattle.index_unify.proofs.branch.value_or_place.Goals as goal

pub rename-requires-clause-t : goal.rename-requires-clause-t
rename-requires-clause-t c = c.in-Some.ensures.among (length c.args.pool.now.trees) c.requires.solutions

pub returns-in-Some-clause-is : goal.returns-in-Some-clause-is
returns-in-Some-clause-is c =
    subst (λ o. IfOk c.rename.result (λ r. StandsFor c.rename.new.pool r (value_or_place c.args.renaming.now.keep.now c.args.var o))) (c.in-Some.ensures.is c.args.pool.now) c.rename.ensures.is

pub returns-in_ok-place-in-None-clause-is : goal.returns-in_ok-place-in-None-clause-is
returns-in_ok-place-in-None-clause-is c =
    subst (λ o. IfOk c.add.result (λ r. StandsFor c.add.new.self r (value_or_place c.args.renaming.now.keep.now c.args.var o))) (c.in-None.ensures.is c.args.pool.now)
    (subst (λ i. IfOk c.add.result (λ r. StandsFor c.add.new.self r (Var i))) c.in_ok-place-in-None.ensures c.add.ensures.stands)

pub returns-in_ok-place-in-None-clause-renaming : goal.returns-in_ok-place-in-None-clause-renaming
returns-in_ok-place-in-None-clause-renaming c =
    on_ok c.add.result (renaming_grown c.args.pool.now c.add.new.self c.add.ensures.extends c.args.renaming.now.keep.now c.args.renaming.now.terms.items c.requires.renaming)
