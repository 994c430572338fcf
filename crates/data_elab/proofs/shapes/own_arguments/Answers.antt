use Rattle.std.proofs.Common.{length, sym, subst}
use Rattle.std.proofs.lemmas.Option.{IfSome_then}
use Rattle.declared_types.proofs.Named.{if_ok}
use Rattle.weak_head.specs.Elims.{AllBelow}
use Rattle.data_elab.proofs.shapes.own_arguments.Goals as goal

pub returns-clause-below : goal.returns-clause-below
returns-clause-below c =
    let n = length c.args.pool.now.trees in
    let below = subst (λ xs. AllBelow n xs) (sym c.as_slice.ensures) c.requires.1 in
    if_ok _ _ c.arguments_for.result (λ o k. IfSome_then o k (λ v h. h n below)) c.arguments_for.ensures.below
