-- The record that a head form shows, where code has looked the family up.
use Rattle.std.proofs.Common.{◌≡◌, ◌≤◌, ◌++◌, ℕ, List, [], length, map, take, drop, arith, sym, ap, ap₂, ◌∙◌}
use Rattle.std.specs.Prelude.{Some, None, option_map}
use Rattle.std.proofs.lemmas.List.{length-append, length-map}
use Rattle.std.proofs.lemmas.Option.{slice_get_past}
use Rattle.core_rules.specs.Term.{Term, Fam}
use Rattle.core_rules.specs.Elimination.{Elim}
use Rattle.core_rules.specs.Signature.{FamDecl, Signature, fams, fam_decl}
use Rattle.core_rules.specs.Mapped.{entry_map, fam_map}
use Rattle.core_rules.proofs.Heads.Mapped.{fam_decl-map}
use Rattle.term_pool.specs.Pool.{Pool, tree}
use Rattle.core_terms.specs.Signature.{signature_in}
use Rattle.kernel_rules.specs.Outcome.{Outcome, Gives, Refuses}
use Rattle.kernel_rules.specs.Refusals.{DeclRefusal, BadTree}
use Rattle.kernel_rules.specs.TermReading.{arguments_for}
use Rattle.kernel_rules.specs.TreeReading.{FamilyAt, family_shown, family_by, family_with, record_shown, record_by, record_with}
use Rattle.kernel_rules.proofs.Sound.{arguments-are}
use Rattle.tree_kernel.proofs.Fitting.{map-drop, map-take}

pub no-family : (p : Pool) (g : Signature ℕ) (d : ℕ) → length (fams g) ≤ d → fam_decl (signature_in p g) d ≡ None
no-family p g d l = fam_decl-map (tree p) g d ∙ ap (option_map (fam_map (tree p))) (slice_get_past (fams g) d l)

module _ (g : Signature Term) (h : Term) (es : List Elim) (d : ℕ) (is : h ≡ Fam d) where
  pub record-unknown : fam_decl g d ≡ None → ◌≡◌ {A = Outcome DeclRefusal FamilyAt} (Refuses BadTree) (record_shown g h es)
  record-unknown n = sym (ap (λ t. record_shown g t es) is ∙ ap (record_by d es) n)

  module _ (D : FamDecl Term) (k : fam_decl g d ≡ Some D) where
    pub record-none : arguments_for D.params es ≡ None → ◌≡◌ {A = Outcome DeclRefusal FamilyAt} (Refuses BadTree) (record_shown g h es)
    record-none n = sym (ap (λ t. record_shown g t es) is ∙ (ap (record_by d es) k ∙ ap (record_with d D) n))

    pub record-some : (us vs : List Term) → arguments_for D.params es ≡ Some us → vs ≡ []
        → ◌≡◌ {A = Outcome DeclRefusal FamilyAt} (Gives (record { fam = d; decl = D; params = us; indices = vs })) (record_shown g h es)
    record-some us vs n e = ap (λ (ws : List Term). Gives (record { fam = d; decl = D; params = us; indices = ws })) e
        ∙ sym (ap (λ t. record_shown g t es) is ∙ (ap (record_by d es) k ∙ ap (record_with d D) n))

module _ (g : Signature Term) (h : Term) (es : List Elim) (d : ℕ) (is : h ≡ Fam d) where
  pub family-unknown : fam_decl g d ≡ None → ◌≡◌ {A = Outcome DeclRefusal FamilyAt} (Refuses BadTree) (family_shown g h es)
  family-unknown n = sym (ap (λ t. family_shown g t es) is ∙ ap (family_by d es) n)

  module _ (D : FamDecl Term) (k : fam_decl g d ≡ Some D) where
    pub family-none : arguments_for (D.params ++ D.indices) es ≡ None → ◌≡◌ {A = Outcome DeclRefusal FamilyAt} (Refuses BadTree) (family_shown g h es)
    family-none n = sym (ap (λ t. family_shown g t es) is ∙ (ap (family_by d es) k ∙ ap (family_with d D) n))

    pub family-some : (us ps vs : List Term) → arguments_for (D.params ++ D.indices) es ≡ Some us → ps ≡ take (length D.params) us
        → vs ≡ drop (length D.params) us
        → ◌≡◌ {A = Outcome DeclRefusal FamilyAt} (Gives (record { fam = d; decl = D; params = ps; indices = vs })) (family_shown g h es)
    family-some us ps vs n e1 e2 = ap₂ (λ (a b : List Term). Gives (record { fam = d; decl = D; params = a; indices = b })) e1 e2
        ∙ sym (ap (λ t. family_shown g t es) is ∙ (ap (family_by d es) k ∙ ap (family_with d D) n))

-- the terms of all the arguments are as many as the parameters at least
pub params-fit : (f : ℕ → Term) (d : FamDecl ℕ) (es : List Elim) (us : List ℕ)
    → arguments_for ((fam_map f d).params ++ (fam_map f d).indices) es ≡ Some (map f us) → length d.params ≤ length us
params-fit f d es us e =
    let fit = arguments-are ((fam_map f d).params ++ (fam_map f d).indices) es (map f us) (sym e) in
    omega (arith, fit.as_many, length-append (fam_map f d).params (fam_map f d).indices, length-map d.params (entry_map f), length-map us f)

-- the first of them are the parameters
pub params-first : (f : ℕ → Term) (d : FamDecl ℕ) (us ps : List ℕ) → ps ≡ take (length d.params) us → map f ps ≡ take (length (fam_map f d).params) (map f us)
params-first f d us ps e = ap (map f) e ∙ (map-take f (length d.params) us ∙ ap (λ (n : ℕ). take n (map f us)) (sym (length-map d.params (entry_map f))))

pub indices-last : (f : ℕ → Term) (d : FamDecl ℕ) (us vs : List ℕ) → vs ≡ drop (length d.params) us → map f vs ≡ drop (length (fam_map f d).params) (map f us)
indices-last f d us vs e = ap (map f) e ∙ (map-drop f (length d.params) us ∙ ap (λ (n : ℕ). drop n (map f us)) (sym (length-map d.params (entry_map f))))
