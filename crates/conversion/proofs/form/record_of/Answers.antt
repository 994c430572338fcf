use Rattle.std.proofs.Common.{sym, ◌∙◌, ap, arith, Some, true, false}
use Rattle.core_terms.specs.Signature.{fam_of}
use Rattle.weak_head.proofs.Lookups.{no_fam}
use Rattle.conversion.proofs.Records.{value_past, value_later, value_stray, value_first}
use Rattle.conversion.proofs.form.record_of.Goals as goal

pub returns-then-number-cons : goal.returns-then-number-cons
returns-then-number-cons c = λ p es a l. value_past p c.args.sig.now es a c.args.con (omega (arith, c.if-number-cons.true, c.number.ensures, c.cons.ensures))

pub returns-then-at-ne0 : goal.returns-then-at-ne0
returns-then-at-ne0 c = λ p es a l. value_later p c.args.sig.now es a c.args.con c.con-fam.result.0 c.con-fam.result.1 c.con-fam.ensures c.if-at-ne0.true

pub returns-then-number-fams : goal.returns-then-number-fams
returns-then-number-fams c = λ p es a l. value_stray p c.args.sig.now es a c.args.con c.con-fam.result.0 c.con-fam.result.1 c.con-fam.ensures (no_fam c.args.sig.now c.con-fam.result.0 (omega (arith, c.if-number-fams.true, c.number-2.ensures, c.fams.ensures)))

pub returns-then-has_eta_with : goal.returns-then-has_eta_with
returns-then-has_eta_with c = λ p es a l.
    value_first p c.args.sig.now es a c.args.con c.con-fam.result.0 c.args.count (fam_of c.fam.result.now.decl) true (c.con-fam.ensures ∙ ap (λ j. Some (c.con-fam.result.0, j)) c.if-at-ne0.false) c.fam.ensures.is l (sym c.if-has_eta_with.true ∙ c.has_eta_with.ensures)

pub returns-else-has_eta_with : goal.returns-else-has_eta_with
returns-else-has_eta_with c = λ p es a l.
    value_first p c.args.sig.now es a c.args.con c.con-fam.result.0 c.args.count (fam_of c.fam.result.now.decl) false (c.con-fam.ensures ∙ ap (λ j. Some (c.con-fam.result.0, j)) c.if-at-ne0.false) c.fam.ensures.is l (sym c.if-has_eta_with.false ∙ c.has_eta_with.ensures)
