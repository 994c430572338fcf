use Rattle.std.proofs.Common.{◌≡◌, ◌∙◌, ap, sym, arith, true, false, subst}
use Rattle.core_rules.specs.Mapped.{fam_map}
use Rattle.core_terms.specs.Signature.{fam_of, signature_in}
use Rattle.term_pool.specs.Pool.{tree}
use Rattle.weak_head.specs.Elims.{AllBelow, spine_in}
use Rattle.kernel_rules.specs.TermReading.{arguments_for}
use Rattle.el_base.proofs.Lists.{drop_next}
use Rattle.std.proofs.Common.{◌∷◌, drop, length}
use Rattle.elab_machine.specs.Records.{record_in}
use Rattle.std.proofs.Common.{rules, map}
use Rattle.std.specs.Prelude.{option_map}
use Rattle.std.proofs.lemmas.Grind.{common_steps}
use Rattle.elab_machine.proofs.Recorded.{no_family, no_record, no_con, no_arguments, is_at}
use Rattle.elab_machine.proofs.record.record_of.Goals as goal

pub returns-then-number-fams : goal.returns-then-number-fams
returns-then-number-fams c =
    let p = c.args.pool.now in
    let g = c.args.sig.now in
    let es = spine_in (tree p) c.args.form.now.spine.items in
    ap (λ t. record_in (signature_in p g) t es) (c.in-Fam.ensures.is) ∙ no_family p g c.in-Fam.fam es (omega (arith, c.if-number-fams.true, c.number.ensures, c.fams.ensures))

pub returns-then-not-is_record : goal.returns-then-not-is_record
returns-then-not-is_record c =
    let p = c.args.pool.now in
    let g = c.args.sig.now in
    let es = spine_in (tree p) c.args.form.now.spine.items in
    let x = fam_of c.fam-entry.result.now.decl in
    let e : x.is_record ≡ false = rw c.in-Family.is (first_of (search rules, grind (arith, common_steps))) in
    ap (λ t. record_in (signature_in p g) t es) (c.in-Fam.ensures.is) ∙ no_record p g c.in-Fam.fam es x c.fam-entry.ensures.is e

pub returns-in_default-as_slice : goal.returns-in_default-as_slice
returns-in_default-as_slice c =
    let p = c.args.pool.now in
    let g = c.args.sig.now in
    let es = spine_in (tree p) c.args.form.now.spine.items in
    let x = fam_of c.fam-entry.result.now.decl in
    ap (λ t. record_in (signature_in p g) t es) (c.in-Fam.ensures.is) ∙ no_con p g c.in-Fam.fam es x c.fam-entry.ensures.is (first_of (search rules, grind (arith, common_steps)))

pub returns-in_default-2 : goal.returns-in_default-2
returns-in_default-2 c =
    let p = c.args.pool.now in
    let g = c.args.sig.now in
    let es = spine_in (tree p) c.args.form.now.spine.items in
    let x = fam_of c.fam-entry.result.now.decl in
    ap (λ t. record_in (signature_in p g) t es) (c.in-Fam.ensures.is) ∙ no_arguments p g c.in-Fam.fam es x c.fam-entry.ensures.is
    (ap (λ xs. arguments_for (fam_map (tree p) x).params (spine_in (tree p) xs)) (sym c.as_slice-2.ensures) ∙ sym (c.in_ok-params.ensures.is (tree p)) ∙ ap (option_map (λ v. map (tree p) v.items)) c.in_default-2.is)

pub returns : goal.returns
returns c =
    let p = c.args.pool.now in
    let g = c.args.sig.now in
    let es = spine_in (tree p) c.args.form.now.spine.items in
    let x = fam_of c.fam-entry.result.now.decl in
    let n = length p.trees in
    let xs = c.as_slice.result.now in
    let record_is : x.is_record ≡ true = rw c.in-Family.is (first_of (search rules, grind (arith, common_steps))) in
    let first : xs ≡ c.con-item.result ∷ drop 1 xs = drop_next xs 0 c.con-item.result (omega (arith, c.in-len1-up.len_at_least)) c.con-item.is in
    let below = (rw c.in-Some.is at c.in_ok-params.ensures.below) n (subst (AllBelow n) (sym c.as_slice-2.ensures) c.requires.form.1) in (
      record { fam = omega (arith, c.if-number-fams.false, c.number.ensures, c.fams.ensures); params = below },
      ap (λ t. record_in (signature_in p g) t es) (c.in-Fam.ensures.is) ∙ is_at p g c.in-Fam.fam es x c.fam-entry.ensures.is c.con-item.result (drop 1 xs) (map (tree p) c.in-Some.params.items) record_is
          (sym (c.as_slice.ensures ∙ c.fam-entry.ensures.cons) ∙ first)
          (ap (λ xs. arguments_for (fam_map (tree p) x).params (spine_in (tree p) xs)) (sym c.as_slice-2.ensures) ∙ sym (c.in_ok-params.ensures.is (tree p)) ∙ ap (option_map (λ v. map (tree p) v.items)) c.in-Some.is),
    )
