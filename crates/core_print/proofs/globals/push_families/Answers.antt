use Rattle.std.proofs.Common.{◌≡◌, ◌++◌, List, ℕ, ap, sym, ◌∙◌, append_assoc, take, subst, slice_get, Some}
use Rattle.core_rules.specs.Signature.{fams}
use Rattle.core_terms.specs.Signature.{fam_of}
use Rattle.core_print.specs.Names.{families_names, family_names}
use Rattle.core_print.proofs.Viewing.{families-next}
use Rattle.core_print.proofs.globals.push_families.Goals as goal

pub loop-fam-preserved : goal.loop-fam-preserved
loop-fam-preserved c =
    let ds = fams c.args.sig.now in
    let i = c.loop-fam.fam in
    let d = fam_of c.fam.result.now.decl in
    let at : slice_get ds i ≡ Some d = subst (λ (n : ℕ). slice_get ds n ≡ Some d) c.new.ensures c.fam.ensures.is in
    c.in_ok-push_family.ensures ∙ (ap (λ (xs : List ℕ). xs ++ family_names d) c.loop-fam.invariant
    ∙ (append_assoc c.args.names.now.items (families_names (take i ds)) (family_names d)
    ∙ ap (λ (xs : List ℕ). c.args.names.now.items ++ xs) (sym (families-next ds i d at))))
