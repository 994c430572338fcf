use Rattle.std.proofs.Common.{◌≡◌, ◌∙◌, ◌<◌, length, [], ap, sym, subst, rules, arith}
use Rattle.std.proofs.lemmas.Grind.{common_steps}
use Rattle.core_rules.specs.Mapped.{AllEntries, telescope_map}
use Rattle.term_pool.specs.Pool.{tree}
use Rattle.core_terms.specs.Signature.{fam_of}
use Rattle.declared_types.proofs.Grown.{fam_within}
use Rattle.elab_machine.proofs.Recorded.{at_fields}
use Rattle.elab_machine.proofs.record.fields_in.Goals as goal

pub returns-clause-below : goal.returns-clause-below
returns-clause-below c = λ p stands.
    let x = fam_of c.fam.result.now.decl in
    let fields : c.as_slice.result.now ≡ x.fields = rw c.in-Family.is (first_of (search rules, grind (arith, common_steps))) in
    subst (AllEntries (λ t. t < length p.trees)) (sym fields) (fam_within p c.args.sig.now c.args.fam x stands c.fam.ensures.is).fields

pub returns-clause-is : goal.returns-clause-is
returns-clause-is c = λ p.
    let x = fam_of c.fam.result.now.decl in
    let fields : c.as_slice.result.now ≡ x.fields = rw c.in-Family.is (first_of (search rules, grind (arith, common_steps))) in
    ap (telescope_map (tree p)) fields ∙ sym (at_fields p c.args.sig.now c.args.fam [] x c.fam.ensures.is)
