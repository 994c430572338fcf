use Rattle.std.proofs.Common.{length, slice_get, sym, ◌∙◌, ap, arith, refl}
use Rattle.std.proofs.lemmas.Option.{slice_get_past, slice_get_read}
use Rattle.core_terms.specs.Signature.{fam_of}
use Rattle.weak_head.proofs.Lookups.{no_con, no_fam, takes_none, takes_past, takes_other, takes_some}
use Rattle.weak_head.proofs.lookup.takes.Goals as goal

pub returns-then-number-cons : goal.returns-then-number-cons
returns-then-number-cons c = λ p. takes_none p c.args.sig.now c.args.con c.args.count (no_con c.args.sig.now c.args.con (omega (arith, c.if-number-cons.true, c.number.ensures, c.cons.ensures)))

pub returns-then-number-fams : goal.returns-then-number-fams
returns-then-number-fams c = λ p. takes_past p c.args.sig.now c.args.con c.args.count c.con-fam.result.0 c.con-fam.result.1 c.con-fam.ensures (no_fam c.args.sig.now c.con-fam.result.0 (omega (arith, c.if-number-fams.true, c.number-2.ensures, c.fams.ensures)))

pub returns-then-at-cons : goal.returns-then-at-cons
returns-then-at-cons c = λ p.
    let l = ap length c.as_slice-cons.ensures in
    takes_other p c.args.sig.now c.args.con c.args.count c.con-fam.result.0 c.con-fam.result.1 (fam_of c.fam.result.now.decl) c.con-fam.ensures c.fam.ensures.is
    (ap (λ d. slice_get (fam_of d).cons c.con-fam.result.1) c.in-Family.is ∙ slice_get_past c.in-Family.cons c.con-fam.result.1 (omega (arith, l, c.if-at-cons.true)))

pub returns-else-at-cons : goal.returns-else-at-cons
returns-else-at-cons c = λ p.
    takes_some p c.args.sig.now c.args.con c.args.count c.con-fam.result.0 c.con-fam.result.1 c.argument_count.result (fam_of c.fam.result.now.decl) c.index-cons-at.result c.con-fam.ensures c.fam.ensures.is
    (ap (λ d. slice_get (fam_of d).cons c.con-fam.result.1) c.in-Family.is ∙ ap (λ l. slice_get l c.con-fam.result.1) (sym c.as_slice-cons.ensures)
    ∙ slice_get_read c.as_slice-cons.result.now (length c.as_slice-cons.result.now) c.con-fam.result.1 c.index-cons-at.result refl c.if-at-cons.false c.index-cons-at.is)
    (sym c.argument_count.ensures)
