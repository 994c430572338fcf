-- A family over a signature that knows it without its constructors.
use Rattle.std.proofs.Common.{◌≡◌, ◌<◌, ◌+◌, ℕ, List, [], ◌∷◌, ◌++◌, length, map, sym, ap, subst, ◌∙◌, arith}
use Rattle.std.specs.Prelude.{Result, Ok, Err}
use Rattle.std.specs.List.{AllByRecursion}
use Rattle.std.proofs.lemmas.List.{length-append, length-map}
use Rattle.el_base.proofs.Throughout.{all-append}
use Rattle.core_rules.specs.Term.{Term}
use Rattle.core_rules.specs.InScope.{ConInScope, any_meta}
use Rattle.core_rules.specs.Mapped.{AllCon, AllDecl, AllFamily, con_map, entry_map, fam_map}
use Rattle.core_rules.specs.Signature.{ConDecl, FamDecl, Family, Signature, fams, without_cons}
use Rattle.core_rules.proofs.Signature.Known.{fams-append}
use Rattle.term_pool.specs.Pool.{Extends, Pool, tree}
use Rattle.core_terms.specs.Signature.{Stands, signature_in}
use Rattle.core_terms.proofs.SignatureGrowth.{Stands-extends, signature_in-extends, signature_in-push}
use Rattle.kernel_rules.specs.Outcome.{Gives, Outcome, Refuses}
use Rattle.kernel_rules.specs.Refusals.{DeclRefusal, OfKernel}
use Rattle.kernel_rules.specs.FamilyReading.{ConsOf, FamilyOf}
use Rattle.core_kernel.specs.declared.error.KernelError.{KernelError}
use Rattle.core_kernel.specs.declared.error.FamilyError.{FamilyError}
use Rattle.core_kernel.specs.Answers.{AnswersFamily, RefusedBy, in_family}
use Rattle.core_kernel.specs.Family.{TelescopesOf}
use Rattle.core_kernel.proofs.Checking.{refused-weaker}
use Rattle.declared_types.proofs.Grown.{con-stays, fam-stays, fam-within, length-fams_in}
use Rattle.core_kernel.proofs.Families.{refused_part, refused_term}
use Rattle.core_kernel.proofs.Levels.{family-after, family-refused}

pub known_count : (p : Pool) (g : Signature ℕ) (d : FamDecl ℕ) (n : ℕ) → n ≡ length (fams g) → n < length (fams (g ++ Family d ∷ []))
known_count p g d n e =
    let G : Signature Term = signature_in p g in
    let D : FamDecl Term = fam_map (tree p) d in
    let l : length (fams (G ++ Family D ∷ [])) ≡ length (fams G) + 1 = ap length (fams-append G (Family D ∷ [])) ∙ length-append (fams G) (D ∷ []) in
    let s : length (fams (signature_in p (g ++ Family d ∷ []))) ≡ length (fams (G ++ Family D ∷ [])) = ap (λ (h : Signature Term). length (fams h)) (signature_in-push p g (Family d)) in
    let a : length (fams G) ≡ length (fams g) = length-fams_in p g in
    let b : length (fams (signature_in p (g ++ Family d ∷ []))) ≡ length (fams (g ++ Family d ∷ [])) = length-fams_in p (g ++ Family d ∷ []) in
    omega (arith, l, s, a, b, e)

-- q is the pool when the constructors are read, p the one before
module _ (p q : Pool) (e : Extends p q) (g : Signature ℕ) (d : FamDecl ℕ) (stands : Stands p g) (within : AllFamily (λ t. t < length p.trees) d) where
  abbrev Known : Signature Term
  Known = signature_in p g ++ Family (without_cons (fam_map (tree p) d)) ∷ []

  pub known_stands : Stands q (g ++ Family (without_cons d) ∷ [])
  known_stands =
      let a : AllFamily (λ t. t < length q.trees) d = fam-within p q e d within in
      let b : AllFamily (λ t. t < length q.trees) (without_cons d) = record { params = a.params; indices = a.indices; cons = tt; fields = tt } in
      all-append (AllDecl (λ t. t < length q.trees)) g (Family (without_cons d) ∷ []) (Stands-extends p q g e stands) (b, tt)

  known_in : signature_in q (g ++ Family (without_cons d) ∷ []) ≡ Known
  known_in =
      signature_in-push q g (Family (without_cons d))
      ∙ (ap (λ (s : Signature Term). s ++ Family (without_cons (fam_map (tree q) d)) ∷ []) (signature_in-extends p q g e stands)
      ∙ ap (λ (D : FamDecl Term). signature_in p g ++ Family (without_cons D) ∷ []) (fam-stays p q e d within))

  each_scope : (G : Signature Term) (m n : ℕ) → m ≡ n → (ks : List (ConDecl ℕ)) → AllByRecursion (AllCon (λ t. t < length p.trees)) ks → AllByRecursion (ConInScope G any_meta m) (map (con_map (tree p)) ks)
      → AllByRecursion (λ k. ConInScope G any_meta n (con_map (tree q) k)) ks
  each_scope G m n same [] a s = tt
  each_scope G m n same (k ∷ ks) a s =
      let here : ConInScope G any_meta n (con_map (tree p) k) = subst (λ (i : ℕ). ConInScope G any_meta i (con_map (tree p) k)) same s.0 in
      (subst (λ (c : ConDecl Term). ConInScope G any_meta n c) (sym (con-stays p q e k a.0)) here, each_scope G m n same ks a.1 s.1)

  pub known_scope : AllByRecursion (ConInScope Known any_meta (length (fam_map (tree p) d).params)) (fam_map (tree p) d).cons
      → AllByRecursion (λ k. ConInScope (signature_in q (g ++ Family (without_cons d) ∷ [])) any_meta (length d.params) (con_map (tree q) k)) d.cons
  known_scope s =
      subst (λ (G : Signature Term). AllByRecursion (λ k. ConInScope G any_meta (length d.params) (con_map (tree q) k)) d.cons) (sym known_in)
      (each_scope Known (length (fam_map (tree p) d).params) (length d.params) (length-map d.params (entry_map (tree p))) d.cons within.cons s)

  module _ (fuel depth : ℕ) (P : Pool) where
    abbrev Reads : Outcome DeclRefusal (Unit {0}) → Type 0
    Reads = FamilyOf (signature_in p g) fuel depth (fam_map (tree p) d)

    -- a refusal of a parameter or an index
    pub telescopes_refused : (x : KernelError) → RefusedBy P (λ r. TelescopesOf (signature_in p g) fuel depth (fam_map (tree p) d) (Refuses r)) x → AnswersFamily P Reads (Err (in_family x))
    telescopes_refused x h =
        refused_term P Reads x
        (refused-weaker P (λ r. TelescopesOf (signature_in p g) fuel depth (fam_map (tree p) d) (Refuses r)) (λ r. Reads (Refuses (OfKernel r))) (λ r v. family-refused (signature_in p g) fuel depth (fam_map (tree p) d) r v) x h)

    module _ (read : TelescopesOf (signature_in p g) fuel depth (fam_map (tree p) d) (Gives tt)) (n : ℕ) (next : n ≡ length (fams g)) where
      abbrev ReadsHere : Outcome DeclRefusal (Unit {0}) → Type 0
      ReadsHere = ConsOf (signature_in q (g ++ Family (without_cons d) ∷ [])) fuel depth n (fam_map (tree q) d) (fam_map (tree q) d).cons

      cons_here : (o : Outcome DeclRefusal (Unit {0})) → ReadsHere o → Reads o
      cons_here o h =
          let D : FamDecl Term = fam_map (tree p) d in
          let m : n ≡ length (fams (signature_in p g)) = next ∙ sym (length-fams_in p g) in
          family-after (signature_in p g) fuel depth D o read
          (subst (λ (i : ℕ). ConsOf Known fuel depth i D D.cons o) m
          (subst (λ (G : Signature Term). ConsOf G fuel depth n D D.cons o) known_in
          (subst (λ (F : FamDecl Term). ConsOf (signature_in q (g ++ Family (without_cons d) ∷ [])) fuel depth n F F.cons o) (fam-stays p q e d within) h)))

      pub cons_answered : (r : Result (Unit {0}) FamilyError) → AnswersFamily P ReadsHere r → AnswersFamily P Reads r
      cons_answered (Ok o) h = cons_here (Gives tt) h
      cons_answered (Err x) h = refused_part P ReadsHere Reads (λ r k. cons_here (Refuses r) k) x h
