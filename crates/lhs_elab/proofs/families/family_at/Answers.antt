use Rattle.std.proofs.Common.{◌≡◌, ◌++◌, ℕ, length, map, refl, ap, sym, ◌∙◌}
use Rattle.std.specs.Prelude.{List, take, drop}
use Rattle.core_rules.specs.Signature.{Entry}
use Rattle.core_rules.specs.Mapped.{fam_map, telescope_map}
use Rattle.core_terms.specs.declared.signature.CoreDecl.{CoreDecl}
use Rattle.core_terms.specs.Signature.{fam_of}
use Rattle.term_pool.specs.Pool.{tree}
use Rattle.weak_head.specs.Elims.{AllBelow, spine_in}
use Rattle.weak_head.specs.declared.elim.Elim.{Elim}
use Rattle.kernel_rules.specs.TermReading.{arguments_for}
use Rattle.std.specs.List.{AllByRecursion}
use Rattle.std.specs.declared.vec.Vec.{Vec}
use Rattle.std.proofs.Common.{Global, subst, Option, ◌<◌}
use Rattle.std.specs.Prelude.{IfSome}
use Rattle.lhs_rules.specs.Families.{at_arguments}
use Rattle.lhs_elab.proofs.FamilyHeads.{no-arguments, its-arguments, its-params, declared}
use Rattle.lhs_elab.proofs.families.family_at.Goals as goal

pub returns-in_default-2 : goal.returns-in_default-2
returns-in_default-2 c = λ p b.
    let x = fam_of c.fam.result.now.decl in
    let ps : x.params ≡ c.in-Family.params = ap (λ (d : CoreDecl). (fam_of d).params) c.in-Family.is in
    let is : x.indices ≡ c.in-Family.indices = ap (λ (d : CoreDecl). (fam_of d).indices) c.in-Family.is in
    let es : c.as_slice-3.result.now ≡ x.params ++ x.indices = cc (c.as_slice-3.ensures.value, c.in_ok-extend_from_slice.ensures.items, c.in_ok-entries.ensures.items, c.as_slice.ensures, c.as_slice-2.ensures, c.params.view_is, c.indices.view_is, ps, is) in
    no-arguments p c.args.sig.now c.args.fam x c.fam.ensures.is c.as_slice-3.result.now (spine_in (tree p) c.args.form.now.spine.items) es c.in_ok-args.field-0 c.in_default-2.is
    (c.in_ok-args.ensures.is (tree p) ∙ ap (λ (xs : List Elim). arguments_for (telescope_map (tree p) c.as_slice-3.result.now) (spine_in (tree p) xs)) c.as_slice-4.ensures)

pub returns : goal.returns
returns c = λ p b.
    let x = fam_of c.fam.result.now.decl in
    let ps : x.params ≡ c.in-Family.params = ap (λ (d : CoreDecl). (fam_of d).params) c.in-Family.is in
    let is : x.indices ≡ c.in-Family.indices = ap (λ (d : CoreDecl). (fam_of d).indices) c.in-Family.is in
    let es : c.as_slice-3.result.now ≡ x.params ++ x.indices = cc (c.as_slice-3.ensures.value, c.in_ok-extend_from_slice.ensures.items, c.in_ok-entries.ensures.items, c.as_slice.ensures, c.as_slice-2.ensures, c.params.view_is, c.indices.view_is, ps, is) in
    let n : length (fam_map (tree p) x).params ≡ c.len-count.result =
    its-params p c.args.sig.now c.args.fam x c.fam.ensures.is ∙ (ap (λ (es : List (Entry ℕ)). length es) ps ∙ (ap (λ (es : List (Entry ℕ)). length es) (sym c.params.view_is) ∙ sym c.len-count.ensures)) in
    let us = map (tree p) c.in-Some.args.items in (
      at_arguments c.args.fam (fam_map (tree p) x) us,
      its-arguments p c.args.sig.now c.args.fam x c.fam.ensures.is c.as_slice-3.result.now (spine_in (tree p) c.args.form.now.spine.items) es c.in_ok-args.field-0 c.in-Some.args c.in-Some.is (c.in_ok-args.ensures.is (tree p) ∙ ap (λ (xs : List Elim). arguments_for (telescope_map (tree p) c.as_slice-3.result.now) (spine_in (tree p) xs)) c.as_slice-4.ensures),
      record {
        fam = refl;
        decl = declared p c.args.sig.now c.args.fam x c.fam.ensures.is;
        params = ap (λ (k : ℕ). take k us) n;
        indices = ap (λ (k : ℕ). drop k us) n;
        below = (subst (λ (o : Option (Vec ℕ Global)). IfSome o (λ (v : Vec ℕ Global). (n : ℕ) → AllBelow n c.as_slice-4.result.now → AllByRecursion (λ t. t < n) v.items)) c.in-Some.is c.in_ok-args.ensures.below) (length p.trees) (subst (AllBelow (length p.trees)) (sym c.as_slice-4.ensures) b.1);
      },
    )
