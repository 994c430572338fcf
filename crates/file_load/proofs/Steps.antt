-- What comes of the steps of a line and of a family, over a pool that grows.
use Rattle.std.proofs.Common.{◌≡◌, ◌<◌, ℕ, false, [], ◌∷◌, length, Ok, Err, sym, ap, subst, arith}
use Rattle.core_rules.specs.Term.{Term}
use Rattle.core_rules.specs.Signature.{Signature, FamDecl, Postulate, Family, Open, Function}
use Rattle.core_rules.specs.Mapped.{AllFamily}
use Rattle.term_pool.specs.Pool.{Pool, tree, Extends}
use Rattle.term_pool.specs.Growth.{Extends-length, Extends-tree}
use Rattle.core_terms.specs.declared.signature.CoreDecl.{CoreDecl}
use Rattle.core_terms.specs.Signature.{fam_of}
use Rattle.core_terms.proofs.SignatureGrowth.{signature_in-extends, Stands-extends}
use Rattle.kernel_rules.specs.Outcome.{Gives}
use Rattle.kernel_rules.specs.TermReading.{IsTypeOf}
use Rattle.kernel_rules.specs.FamilyReading.{FamilyOf}
use Rattle.written_rules.specs.Expressions.{WrittenTypeOf}
use Rattle.data_rules.specs.Families.{WrittenFamilyOf}
use Rattle.data_elab.specs.Family.{IsCoreFamily}
use Rattle.el_outside.specs.declared.place.Pos.{Pos}
use Rattle.resolved_tree.specs.declared.resolved.ResolvedSignature.{ResolvedSignature}
use Rattle.resolved_tree.specs.declared.resolved.Resolved.{Resolved}
use Rattle.file_load.specs.declared.stop.Stop.{Stop}
use Rattle.file_load.specs.Kinds.{elab_kind, kernel_kind, family_kind, decl_kind}
use Rattle.file_load.specs.Passes.{error_at}
use Rattle.file_load.specs.Sizes.{terms_of, are_too_large}
use Rattle.file_load.specs.Lines.{TypePasses, FamilyPasses}
use Rattle.file_load.specs.Judged.{Stops, IsRefused, IsGiven, Measures, Checks, Passed, is_within, typed_in, family_in}
use Rattle.file_load.proofs.Passing.{not_elaborated, not_measured, not_checked, all_passed}

-- ---- lines

module _ (fuel depth : ℕ) (g : Signature Term) (s : ResolvedSignature) where
  pub type_not_elaborated : (st : Stop) → Stops (IsRefused (WrittenTypeOf g fuel depth [] s.ty) (λ e. error_at e.pos (elab_kind e.kind))) st → Stops (λ e. TypePasses fuel depth g s (Err e)) st
  type_not_elaborated = not_elaborated (WrittenTypeOf g fuel depth [] s.ty) (λ e. error_at e.pos (elab_kind e.kind)) (λ q. q.0 ∷ []) (λ q. IsTypeOf g fuel depth [] q.0) kernel_kind s.place.pos

  module _ (q : Term × ℕ) (is : WrittenTypeOf g fuel depth [] s.ty (Gives q)) where
    pub type_not_measured : (st : Stop) → Measures s.place.pos (q.0 ∷ []) (Err st) → Stops (λ e. TypePasses fuel depth g s (Err e)) st
    type_not_measured = not_measured (WrittenTypeOf g fuel depth [] s.ty) (λ e. error_at e.pos (elab_kind e.kind)) (λ q. q.0 ∷ []) (λ q. IsTypeOf g fuel depth [] q.0) kernel_kind s.place.pos q is

    pub type_not_checked : are_too_large (q.0 ∷ []) ≡ false → (st : Stop) → Checks (IsTypeOf g fuel depth [] q.0) kernel_kind s.place.pos (Err st) → Stops (λ e. TypePasses fuel depth g s (Err e)) st
    type_not_checked = not_checked (WrittenTypeOf g fuel depth [] s.ty) (λ e. error_at e.pos (elab_kind e.kind)) (λ q. q.0 ∷ []) (λ q. IsTypeOf g fuel depth [] q.0) kernel_kind s.place.pos q is

    type_all_passed : are_too_large (q.0 ∷ []) ≡ false → IsGiven (IsTypeOf g fuel depth [] q.0) → TypePasses fuel depth g s (Ok q)
    type_all_passed = all_passed (WrittenTypeOf g fuel depth [] s.ty) (λ e. error_at e.pos (elab_kind e.kind)) (λ q. q.0 ∷ []) (λ q. IsTypeOf g fuel depth [] q.0) kernel_kind s.place.pos q is

  pub type_passed : (mid new : Pool) (w : ℕ × ℕ) → is_within mid w → WrittenTypeOf g fuel depth [] s.ty (Gives (typed_in mid w)) → are_too_large (tree mid w.0 ∷ []) ≡ false
      → IsGiven (IsTypeOf g fuel depth [] (tree mid w.0)) → Extends mid new → Passed (TypePasses fuel depth g s) (is_within new) (typed_in new) (Ok w)
  type_passed mid new w within is size k e = (
    omega (arith, Extends-length e, within),
    subst (λ (t : Term). TypePasses fuel depth g s (Ok (t, w.1))) (sym (Extends-tree w.0 e within)) (type_all_passed (typed_in mid w) is size k),
  )

-- ---- families

-- the first family of a signature that begins with one
abbrev begins_with : FamDecl Term → Signature Term → FamDecl Term
begins_with d [] = d
begins_with d (Family e ∷ g) = e
begins_with d (Postulate x a ∷ g) = d
begins_with d (Open x a ∷ g) = d
begins_with d (Function x a qs T ∷ g) = d

family_in-extends : (p q : Pool) (d : CoreDecl) → Extends p q → AllFamily (λ t. t < length p.trees) (fam_of d) → family_in q d ≡ family_in p d
family_in-extends p q d e within = ap (begins_with (family_in p d)) (signature_in-extends p q (Family (fam_of d) ∷ []) e (within, tt))

pub is_family-extends : (p q : Pool) (d : CoreDecl) → Extends p q → IsCoreFamily p d → IsCoreFamily q d
is_family-extends p q d e is = record { family = is.family; within = (Stands-extends p q (Family (fam_of d) ∷ []) e (is.within, tt)).0 }

module _ (fuel depth : ℕ) (g : Signature Term) (p : Pos) (x : Resolved) where
  pub family_not_elaborated : (st : Stop) → Stops (IsRefused (WrittenFamilyOf g fuel depth x) (λ e. error_at e.pos (family_kind e.kind))) st → Stops (λ e. FamilyPasses fuel depth g p x (Err e)) st
  family_not_elaborated = not_elaborated (WrittenFamilyOf g fuel depth x) (λ e. error_at e.pos (family_kind e.kind)) terms_of (FamilyOf g fuel depth) decl_kind p

  module _ (d : FamDecl Term) (is : WrittenFamilyOf g fuel depth x (Gives d)) where
    pub family_not_measured : (st : Stop) → Measures p (terms_of d) (Err st) → Stops (λ e. FamilyPasses fuel depth g p x (Err e)) st
    family_not_measured = not_measured (WrittenFamilyOf g fuel depth x) (λ e. error_at e.pos (family_kind e.kind)) terms_of (FamilyOf g fuel depth) decl_kind p d is

    pub family_not_checked : are_too_large (terms_of d) ≡ false → (st : Stop) → Checks (FamilyOf g fuel depth d) decl_kind p (Err st) → Stops (λ e. FamilyPasses fuel depth g p x (Err e)) st
    family_not_checked = not_checked (WrittenFamilyOf g fuel depth x) (λ e. error_at e.pos (family_kind e.kind)) terms_of (FamilyOf g fuel depth) decl_kind p d is

    family_all_passed : are_too_large (terms_of d) ≡ false → IsGiven (FamilyOf g fuel depth d) → FamilyPasses fuel depth g p x (Ok d)
    family_all_passed = all_passed (WrittenFamilyOf g fuel depth x) (λ e. error_at e.pos (family_kind e.kind)) terms_of (FamilyOf g fuel depth) decl_kind p d is

  pub family_passed : (mid new : Pool) (d : CoreDecl) → IsCoreFamily mid d → WrittenFamilyOf g fuel depth x (Gives (family_in mid d)) → are_too_large (terms_of (family_in mid d)) ≡ false
      → IsGiven (FamilyOf g fuel depth (family_in mid d)) → Extends mid new → Passed (FamilyPasses fuel depth g p x) (IsCoreFamily new) (family_in new) (Ok d)
  family_passed mid new d core is size k e = (
    is_family-extends mid new d e core,
    subst (λ (d : FamDecl Term). FamilyPasses fuel depth g p x (Ok d)) (sym (family_in-extends mid new d e core.within)) (family_all_passed (family_in mid d) is size k),
  )
