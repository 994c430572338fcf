use Rattle.std.proofs.Common.{sym, ◌∙◌, arith}
use Rattle.weak_head.proofs.Lookups.{fields_past, fields_in}
use Rattle.conversion.proofs.parts.fields_of.Goals as goal

pub returns-then-number-fams : goal.returns-then-number-fams
returns-then-number-fams c = λ p. sym (fields_past p c.args.sig.now c.args.fam (omega (arith, c.if-number-fams.true, c.number.ensures, c.fams.ensures)))

pub returns : goal.returns
returns c = λ p. c.as_slice.ensures ∙ c.fam.ensures.fields ∙ sym (fields_in p c.args.sig.now c.args.fam)
