use Rattle.std.proofs.Common.{refl, arith}
use Rattle.source_tree.proofs.Lists.{same_throughout}
use Rattle.source_tree.proofs.+same.Goals as goal

pub equality::same_args-returns : goal.equality::same_args-returns
equality::same_args-returns t c = (λ _. same_throughout c.args.args.now c.args.others.now c.loop-i.i c.loop-i.invariant (omega arith) (omega arith), λ _. refl)

pub equality::same_binders-returns : goal.equality::same_binders-returns
equality::same_binders-returns t c = (λ _. same_throughout c.args.binders.now c.args.others.now c.loop-i.i c.loop-i.invariant (omega arith) (omega arith), λ _. refl)

pub equality::same_fields-returns : goal.equality::same_fields-returns
equality::same_fields-returns t c = (λ _. same_throughout c.args.fields.now c.args.others.now c.loop-i.i c.loop-i.invariant (omega arith) (omega arith), λ _. refl)
