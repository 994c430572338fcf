use Rattle.std.proofs.Common.{length, sym, subst, List}
use Rattle.weak_head.specs.Elims.{AllBelow}
use Rattle.weak_head.specs.declared.elim.Elim as E
use Rattle.core_kernel.proofs.Shown.{params-below}
use Rattle.core_kernel.proofs.records.params_of.Goals as goal

pub returns-clause-below : goal.returns-clause-below
returns-clause-below c =
    let n = length c.args.pool.now.trees in
    params-below n c.as_slice.result.now c.params_for.result (subst (λ (xs : List E.Elim). AllBelow n xs) (sym c.as_slice.ensures) c.requires.form.1) c.params_for.ensures.below
