use Rattle.std.proofs.Common.{subst, arith}
use Rattle.std.specs.List.{AllByRecursion}
use Rattle.std.proofs.lemmas.List.{take_all}
use Rattle.weak_head.specs.declared.elim.Elim.TheVariants as V
use Rattle.conversion.proofs.Cuts.{IsArgument, none_last, field_last, slice_at}
use Rattle.conversion.proofs.spine.last_field.Goals as goal

pub returns-in-Field-clause-is : goal.returns-in-Field-clause-is
returns-in-Field-clause-is c = λ f.
    let xs = c.args.spine.now in
    let n = c.loop-n.n in
    field_last f xs n c.in-Field.field (slice_at xs n _ (V.Field c.in-Field.field) c.loop-n-test.true c.in-Field.is) c.loop-n.invariant.args

pub returns-clause-is : goal.returns-clause-is
returns-clause-is c = λ f.
    let xs = c.args.spine.now in
    let whole = take_all c.loop-n.n xs (omega (arith, c.loop-n-test.false)) in
    none_last f xs (subst (AllByRecursion IsArgument) whole c.loop-n.invariant.args)
