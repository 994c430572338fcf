-- A declaration over a pool that grew: the function that is known without its tree, and the signature with the declaration.
use Rattle.std.proofs.Common.{◌≡◌, ◌<◌, ℕ, [], ◌∷◌, ◌++◌, length, ap, refl, sym, subst, ◌∙◌}
use Rattle.std.specs.Prelude.{Some}
use Rattle.el_base.proofs.Throughout.{all-push}
use Rattle.core_rules.specs.Term.{Term, Def}
use Rattle.core_rules.specs.Signature.{Decl, Postulate, Family, Open, Function, Signature, Tree, defs, def_decl}
use Rattle.core_rules.specs.Mapped.{AllDecl, AllTree, decl_map, tree_map}
use Rattle.core_rules.specs.InScope.{TreeInScope, any_meta}
use Rattle.core_rules.specs.Derivable.{Derivable}
use Rattle.core_terms.specs.Signature.{Stands, signature_in}
use Rattle.core_terms.proofs.SignatureGrowth.{signature_in-extends, signature_in-push}
use Rattle.declared_types.proofs.Grown.{length-defs_in}
use Rattle.term_pool.specs.Pool.{Pool, Extends, tree}
use Rattle.term_pool.specs.Growth.{Extends-tree}
use Rattle.kernel_rules.specs.Outcome.{Outcome}
use Rattle.kernel_rules.specs.Refusals.{DeclRefusal}
use Rattle.tree_kernel.specs.Reading.{ReadsTree}
use Rattle.tree_kernel.proofs.Continuing.{tree-stays}

-- the last function of a signature
pub def-last : (g : Signature ℕ) (x a : ℕ) → def_decl (g ++ Open x a ∷ []) (length (defs g)) ≡ Some (Open x a)
def-last [] x a = refl
def-last (Postulate y b ∷ g) x a = def-last g x a
def-last (Family d ∷ g) x a = def-last g x a
def-last (Open y b ∷ g) x a = def-last g x a
def-last (Function y b qs T ∷ g) x a = def-last g x a

-- a declaration added to a signature
module _ (p q : Pool) (e : Extends p q) (s : Signature ℕ) (stands : Stands p s) (d : Decl ℕ) (within : AllDecl (λ t. t < length p.trees) d) where
  pub added-stands : Stands p (s ++ d ∷ [])
  added-stands = all-push (AllDecl (λ t. t < length p.trees)) s d stands within

  pub added-is : signature_in q (s ++ d ∷ []) ≡ signature_in p s ++ decl_map (tree p) d ∷ []
  added-is = signature_in-extends p q (s ++ d ∷ []) e added-stands ∙ signature_in-push p s d

  pub added-derivable : (new : Signature ℕ) → new ≡ s ++ d ∷ [] → Derivable (signature_in p s ++ decl_map (tree p) d ∷ []) → Derivable (signature_in q new)
  added-derivable new n h = subst (λ (g : Signature Term). Derivable g) (sym (ap (signature_in q) n ∙ added-is)) h

-- a function that is known without its tree, and the tree
module _ (p q : Pool) (e : Extends p q) (s : Signature ℕ) (stands : Stands p s) (x a : ℕ) (l : a < length p.trees) (T : Tree ℕ)
    (all : AllTree (λ i. i < length p.trees) T) where
  open-is : signature_in q (s ++ Open x a ∷ []) ≡ signature_in p s ++ Open x (tree p a) ∷ []
  open-is = added-is p q e s stands (Open x a) l

  tree-is : tree_map (tree q) T ≡ tree_map (tree p) T
  tree-is = tree-stays p q e a l T all

  pub open-scope : TreeInScope (signature_in p s ++ Open x (tree p a) ∷ []) any_meta 0 (tree_map (tree p) T)
      → TreeInScope (signature_in q (s ++ Open x a ∷ [])) any_meta 0 (tree_map (tree q) T)
  open-scope h = subst (λ (g : Signature Term). TreeInScope g any_meta 0 (tree_map (tree q) T)) (sym open-is)
      (subst (λ (U : Tree Term). TreeInScope (signature_in p s ++ Open x (tree p a) ∷ []) any_meta 0 U) (sym tree-is) h)

  pub open-reads : (fuel depth : ℕ) (o : Outcome DeclRefusal (Unit {0}))
      → ReadsTree (signature_in q (s ++ Open x a ∷ [])) fuel depth [] (tree_map (tree q) T) (tree q a) (Def (length (defs s))) o
      → ReadsTree (signature_in p s ++ Open x (tree p a) ∷ []) fuel depth [] (tree_map (tree p) T) (tree p a) (Def (length (defs (signature_in p s)))) o
  open-reads fuel depth o h =
      let G : Signature Term = signature_in p s ++ Open x (tree p a) ∷ [] in
      subst (λ (n : ℕ). ReadsTree G fuel depth [] (tree_map (tree p) T) (tree p a) (Def n) o) (sym (length-defs_in p s))
      (subst (λ (t : Term). ReadsTree G fuel depth [] (tree_map (tree p) T) t (Def (length (defs s))) o) (Extends-tree a e l)
      (subst (λ (U : Tree Term). ReadsTree G fuel depth [] U (tree q a) (Def (length (defs s))) o) tree-is
      (subst (λ (g : Signature Term). ReadsTree g fuel depth [] (tree_map (tree q) T) (tree q a) (Def (length (defs s))) o) open-is h)))
