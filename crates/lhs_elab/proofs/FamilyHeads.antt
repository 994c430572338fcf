-- The family that a head form shows, by what code has found.
use Rattle.std.proofs.Common.{◌≡◌, ◌≤◌, ℕ, zero, suc, List, [], ◌∷◌, ◌++◌, length, map, refl, sym, ap, ◌∙◌, arith}
use Rattle.std.specs.Prelude.{Option, Some, None, option_map, is_some, false, slice_get}
use Rattle.std.specs.declared.vec.Vec.{Vec}
use Rattle.std.proofs.lemmas.List.{map-append, length-map}
use Rattle.core_rules.specs.Term.{Term, Fam}
use Rattle.core_rules.specs.Signature.{Entry, Telescope, FamDecl, Signature, fam_decl, fams}
use Rattle.core_rules.specs.Mapped.{entry_map, fam_map, telescope_map}
use Rattle.core_rules.specs.Elimination.{Elim}
use Rattle.core_rules.specs.Heads.{Form}
use Rattle.core_rules.proofs.Heads.Mapped.{fam_decl-map}
use Rattle.kernel_rules.specs.TermReading.{arguments_for}
use Rattle.term_pool.specs.Pool.{Pool, tree}
use Rattle.core_terms.specs.Signature.{signature_in}
use Rattle.weak_head.specs.declared.state.Applied as A
use Rattle.weak_head.specs.States.{answer_in}
use Rattle.lhs_rules.specs.Families.{at_family, at_arguments}

module _ (p : Pool) (g : Signature ℕ) (d : ℕ) (x : FamDecl ℕ) (h : fam_decl g d ≡ Some x) where
  pub declared : fam_decl (signature_in p g) d ≡ Some (fam_map (tree p) x)
  declared = fam_decl-map (tree p) g d ∙ ap (option_map (fam_map (tree p))) h

  -- its arguments are those for the parameters and then the indices
  by-arguments : (es : List (Entry ℕ)) (xs : List Elim) → es ≡ x.params ++ x.indices
      → at_family (signature_in p g) (Form (Fam d) xs) ≡ option_map (at_arguments d (fam_map (tree p) x)) (arguments_for (telescope_map (tree p) es) xs)
  by-arguments es xs e =
      rw declared (ap (λ (ts : Telescope Term). option_map (at_arguments d (fam_map (tree p) x)) (arguments_for ts xs)) (sym (map-append (entry_map (tree p)) x.params x.indices) ∙ ap (telescope_map (tree p)) (sym e)))

  pub no-arguments : {G : Type 0} (es : List (Entry ℕ)) (xs : List Elim) → es ≡ x.params ++ x.indices → (o : Option (Vec ℕ G)) → o ≡ None
      → option_map (λ (v : Vec ℕ G). map (tree p) v.items) o ≡ arguments_for (telescope_map (tree p) es) xs → at_family (signature_in p g) (Form (Fam d) xs) ≡ None
  no-arguments es xs e o n r =
      by-arguments es xs e ∙ ap (option_map (at_arguments d (fam_map (tree p) x))) (sym r ∙ ap (option_map (λ v. map (tree p) v.items)) n)

  pub its-arguments : {G : Type 0} (es : List (Entry ℕ)) (xs : List Elim) → es ≡ x.params ++ x.indices → (o : Option (Vec ℕ G)) (v : Vec ℕ G) → o ≡ Some v
      → option_map (λ (v : Vec ℕ G). map (tree p) v.items) o ≡ arguments_for (telescope_map (tree p) es) xs
      → at_family (signature_in p g) (Form (Fam d) xs) ≡ Some (at_arguments d (fam_map (tree p) x) (map (tree p) v.items))
  its-arguments es xs e o v n r =
      by-arguments es xs e ∙ ap (option_map (at_arguments d (fam_map (tree p) x))) (sym r ∙ ap (option_map (λ v. map (tree p) v.items)) n)

  pub its-params : length (fam_map (tree p) x).params ≡ length x.params
  its-params = length-map x.params (entry_map (tree p))

beyond : {A : Type 0} (xs : List A) (i : ℕ) → length xs ≤ i → slice_get xs i ≡ None
beyond [] i l = refl
beyond (x ∷ xs) zero l = absurd (omega (arith, l))
beyond (x ∷ xs) (suc i) l = beyond xs i (omega (arith, l))

-- a family that is not there
pub no-family : (p : Pool) (g : Signature ℕ) (m : Option ℕ) (a : A.Applied) (d : ℕ) → m ≡ None → tree p a.head ≡ Fam d → length (fams g) ≤ d
    → at_family (signature_in p g) (answer_in (tree p) m a) ≡ None
no-family p g m a d n h l =
    let none : fam_decl (signature_in p g) d ≡ None = fam_decl-map (tree p) g d ∙ ap (option_map (fam_map (tree p))) (beyond (fams g) d l) in
    rw (n, h, none) refl

pub none-some : (m : Option ℕ) → is_some m ≡ false → m ≡ None
none-some None h = refl
none-some (Some i) h = absurd (cc h)
