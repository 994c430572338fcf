use Rattle.std.proofs.Common.{◌≡◌, length, sym, ◌∙◌, ap, arith}
use Rattle.std.specs.Prelude.{is_some, slice_get}
use Rattle.std.proofs.lemmas.Option.{slice_get_past}
use Rattle.core_terms.specs.Signature.{fam_of}
use Rattle.core_terms.specs.declared.signature.CoreDecl.{CoreDecl}
use Rattle.lhs_elab.proofs.FamilyCons.{con-past, fam-past, con-in, some-within}
use Rattle.lhs_elab.proofs.families.has_con.Goals as goal

pub returns-then-number-cons : goal.returns-then-number-cons
returns-then-number-cons c = sym (ap is_some (con-past c.args.sig.now c.args.con (omega (arith, c.if-number-cons.true, c.number.ensures, c.cons.ensures))))

pub returns-then-number-fams : goal.returns-then-number-fams
returns-then-number-fams c = sym (ap is_some (fam-past c.args.sig.now c.args.con c.con-fam.result.0 c.con-fam.result.1 c.con-fam.ensures (omega (arith, c.if-number-fams.true, c.number-2.ensures, c.fams.ensures))))

pub returns-then-at-len : goal.returns-then-at-len
returns-then-at-len c =
    let x = fam_of c.fam.result.now.decl in
    let l : length c.in-Family.cons ≡ c.len.result = sym c.len.ensures in
    sym (ap is_some (con-in c.args.sig.now c.args.con c.con-fam.result.0 c.con-fam.result.1 c.con-fam.ensures x c.fam.ensures.is
    ∙ (ap (λ (d : CoreDecl). slice_get (fam_of d).cons c.con-fam.result.1) c.in-Family.is ∙ slice_get_past c.in-Family.cons c.con-fam.result.1 (omega (arith, l, c.if-at-len.true)))))

pub returns : goal.returns
returns c =
    let x = fam_of c.fam.result.now.decl in
    let l : length c.in-Family.cons ≡ c.len.result = sym c.len.ensures in
    sym (ap is_some (con-in c.args.sig.now c.args.con c.con-fam.result.0 c.con-fam.result.1 c.con-fam.ensures x c.fam.ensures.is)
    ∙ (ap (λ (d : CoreDecl). is_some (slice_get (fam_of d).cons c.con-fam.result.1)) c.in-Family.is ∙ some-within c.in-Family.cons c.con-fam.result.1 (omega (arith, l, c.if-at-len.false))))
