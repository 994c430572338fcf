use Rattle.std.proofs.Common.{sym, ◌∙◌, arith}
use Rattle.weak_head.proofs.Lookups.{no_field, argument_none, argument_past, argument_short, argument_other, argument_some}
use Rattle.weak_head.proofs.lookup.place_of.Goals as goal

pub returns-then-number-fields-clause-is : goal.returns-then-number-fields-clause-is
returns-then-number-fields-clause-is c = λ p us l. argument_none p c.args.sig.now c.args.con c.args.field c.args.count us (no_field c.args.sig.now c.args.field (omega (arith, c.if-number-fields.true, c.number.ensures, c.fields.ensures))) l

pub returns-then-at-count-clause-is : goal.returns-then-at-count-clause-is
returns-then-at-count-clause-is c = λ p us l. argument_past p c.args.sig.now c.args.con c.args.field c.args.count c.field-fam.result.0 c.field-fam.result.1 us c.field-fam.ensures l (omega (arith, c.if-at-count.true))

pub returns-then-not-takes-clause-is : goal.returns-then-not-takes-clause-is
returns-then-not-takes-clause-is c = λ p us l. argument_short p c.args.sig.now c.args.con c.args.field c.args.count c.field-fam.result.0 c.field-fam.result.1 us c.field-fam.ensures l (sym c.if-not-takes.true ∙ c.takes.ensures p)

pub returns-then-not-is_first-clause-is : goal.returns-then-not-is_first-clause-is
returns-then-not-is_first-clause-is c = λ p us l. argument_other p c.args.sig.now c.args.con c.args.field c.args.count c.field-fam.result.0 c.field-fam.result.1 us c.field-fam.ensures l (sym c.if-not-takes.false ∙ c.takes.ensures p) (sym c.if-not-is_first.true ∙ c.is_first.ensures p)

pub returns-clause-is : goal.returns-clause-is
returns-clause-is c = λ p us l. argument_some p c.args.sig.now c.args.con c.args.field c.args.count c.field-fam.result.0 c.field-fam.result.1 us c.field-fam.ensures l (sym c.if-not-takes.false ∙ c.takes.ensures p) (sym c.if-not-is_first.false ∙ c.is_first.ensures p)
