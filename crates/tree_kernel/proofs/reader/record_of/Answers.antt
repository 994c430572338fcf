use Rattle.std.proofs.Common.{◌≡◌, ◌<◌, ◌≤◌, List, length, map, arith, sym, ap, subst, ◌∙◌}
use Rattle.std.specs.Prelude.{Some, None, option_map}
use Rattle.std.specs.List.{AllByRecursion}
use Rattle.core_rules.specs.Signature.{fams}
use Rattle.core_rules.specs.Mapped.{fam_map}
use Rattle.conversion.proofs.Slices.{none_of}
use Rattle.core_terms.specs.Signature.{fam_of, signature_in}
use Rattle.declared_types.proofs.Grown.{fam_in, fam_within}
use Rattle.kernel_rules.specs.TermReading.{arguments_for}
use Rattle.term_pool.specs.Pool.{tree}
use Rattle.weak_head.specs.Elims.{AllBelow, spine_in}
use Rattle.weak_head.specs.declared.elim.Elim as E
use Rattle.tree_kernel.proofs.Families.{no-family, record-unknown, record-none, record-some}
use Rattle.tree_kernel.proofs.reader.record_of.Goals as goal

pub returns-then-number-fams-clause-is : goal.returns-then-number-fams-clause-is
returns-then-number-fams-clause-is c =
    let p = c.args.pool.now in
    let g = c.args.signature.now in
    let l : length (fams g) ≤ c.in-Fam.fam = omega (arith, c.if-number-fams.true, c.fams.ensures, c.number.ensures) in
    record-unknown (signature_in p g) (tree p c.args.form.now.head) (spine_in (tree p) c.args.form.now.spine.items) c.in-Fam.fam c.in-Fam.ensures.is
    (no-family p g c.in-Fam.fam l)

pub returns-in_default-2-clause-is : goal.returns-in_default-2-clause-is
returns-in_default-2-clause-is c =
    let p = c.args.pool.now in
    let f = tree p in
    let g = c.args.signature.now in
    let d = fam_of c.fam-entry.result.now.decl in
    let k = fam_in p g c.in-Fam.fam d c.fam-entry.ensures.is in
    let xs = c.args.form.now.spine.items in
    let n = none_of c.in_ok-params.field-0 c.in_default-2.not-Some in
    let a : arguments_for (fam_map f d).params (spine_in f xs) ≡ None =
    ap (λ (ys : List E.Elim). arguments_for (fam_map f d).params (spine_in f ys)) (sym c.as_slice.ensures)
    ∙ (sym (c.in_ok-params.ensures.is f) ∙ ap (option_map (λ v. map f v.items)) n) in
    record-none (signature_in p g) (f c.args.form.now.head) (spine_in f xs) c.in-Fam.fam c.in-Fam.ensures.is (fam_map f d) k a

pub returns-clause-stands : goal.returns-clause-stands
returns-clause-stands c =
    let p = c.args.pool.now in
    let n = length p.trees in
    let g = c.args.signature.now in
    let d = fam_of c.fam-entry.result.now.decl in
    record {
      is_family = c.fam-entry.ensures.decl;
      is_decl = c.fam-entry.ensures.is;
      cons = c.fam-entry.ensures.cons;
      fields = c.fam-entry.ensures.fields;
      decl = fam_within p g c.in-Fam.fam d c.requires.stands c.fam-entry.ensures.is;
      params = (rw c.in-Some.is at c.in_ok-params.ensures.below) n (subst (λ (xs : List E.Elim). AllBelow n xs) (sym c.as_slice.ensures) c.requires.form.1);
      indices = subst (AllByRecursion (λ t. t < n)) (sym c.new-indices.ensures.items) tt;
    }

pub returns-clause-is : goal.returns-clause-is
returns-clause-is c =
    let p = c.args.pool.now in
    let f = tree p in
    let g = c.args.signature.now in
    let d = fam_of c.fam-entry.result.now.decl in
    let k = fam_in p g c.in-Fam.fam d c.fam-entry.ensures.is in
    let xs = c.args.form.now.spine.items in
    let a : arguments_for (fam_map f d).params (spine_in f xs) ≡ Some (map f c.in-Some.params.items) =
    ap (λ (ys : List E.Elim). arguments_for (fam_map f d).params (spine_in f ys)) (sym c.as_slice.ensures)
    ∙ (sym (c.in_ok-params.ensures.is f) ∙ ap (option_map (λ v. map f v.items)) c.in-Some.is) in
    record-some (signature_in p g) (f c.args.form.now.head) (spine_in f xs) c.in-Fam.fam c.in-Fam.ensures.is (fam_map f d) k (map f c.in-Some.params.items)
    (map f c.new-indices.result.items) a (ap (map f) c.new-indices.ensures.items)
