use Rattle.std.proofs.Common.{◌≤◌, length, arith}
use Rattle.core_rules.specs.Signature.{fams}
use Rattle.lhs_elab.proofs.FamilyHeads.{no-family, none-some}
use Rattle.lhs_elab.proofs.families.at_family.Goals as goal

pub returns-then-number-fams : goal.returns-then-number-fams
returns-then-number-fams c =
    let l : length (fams c.args.sig.now) ≤ c.in-Fam.fam = omega (arith, c.if-number-fams.true, c.fams.ensures, c.number.ensures) in
    no-family c.args.pool.now c.args.sig.now c.args.shown.now.meta c.args.shown.now.form c.in-Fam.fam (none-some c.args.shown.now.meta (cc (c.is_some.ensures, c.if-is_some.false))) c.in-Fam.ensures.is l
