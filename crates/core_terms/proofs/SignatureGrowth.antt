-- What stays of a signature as the pool grows, and what an entry of it is as a tree: lemmas for callers.
use Rattle.std.specs.Prelude.{◌≡◌, ℕ, ◌<◌, [], ◌∷◌, ◌++◌, length, slice_get, Some, None, Option, option_map, option_and_then, refl}
use Rattle.std.proofs.Common.{arith, ap, ◌∙◌}
use Rattle.std.proofs.lemmas.List.{map-append}
use Rattle.std.proofs.lemmas.Option.{slice_get-map}
use Rattle.core_rules.specs.Signature.{Signature, Decl, Postulate, Family, Open, Function, defs, def_decl, def_type, decl_type}
use Rattle.core_rules.specs.Mapped.{decl_map, signature_map}
use Rattle.core_terms.specs.declared.signature.DefEntry.{DefEntry}
use Rattle.core_terms.specs.declared.signature.DefState.{DefState}
use Rattle.core_terms.specs.declared.signature.DefState.TheVariants as S
use Rattle.term_pool.specs.Pool.{Pool, tree, Extends}
use Rattle.term_pool.specs.Growth.{Extends-length, Extends-tree}
use Rattle.core_terms.specs.Signature.{entry_decl, state_decl, Stands, signature_in}
use Rattle.core_terms.proofs.Mapped.{signature_map-same, AllDecls-weaker}

pub Stands-extends : (p q : Pool) (g : Signature ℕ) → Extends p q → Stands p g → Stands q g
Stands-extends p q g e s = AllDecls-weaker (λ t. t < length p.trees) (λ t. t < length q.trees) (λ t l. omega (arith, Extends-length e, l)) g s

-- the signature over trees is the same
pub signature_in-extends : (p q : Pool) (g : Signature ℕ) → Extends p q → Stands p g → signature_in q g ≡ signature_in p g
signature_in-extends p q g e s = signature_map-same (λ t. t < length p.trees) (tree q) (tree p) (λ t l. Extends-tree t e l) g s

pub signature_in-push : (p : Pool) (g : Signature ℕ) (d : Decl ℕ) → signature_in p (g ++ d ∷ []) ≡ signature_in p g ++ decl_map (tree p) d ∷ []
signature_in-push p g d = map-append (decl_map (tree p)) g (d ∷ [])

module _ {A B : Type 0} (f : A → B) where
  pub defs-map : (g : Signature A) → defs (signature_map f g) ≡ signature_map f (defs g)
  defs-map [] = refl
  defs-map (Postulate x a ∷ g) = cc (defs-map g)
  defs-map (Family d ∷ g) = cc (defs-map g)
  defs-map (Open x a ∷ g) = cc (defs-map g)
  defs-map (Function x a qs T ∷ g) = cc (defs-map g)

  decl_type-map : (o : Option (Decl A)) → option_and_then decl_type (option_map (decl_map f) o) ≡ option_map f (option_and_then decl_type o)
  decl_type-map None = refl
  decl_type-map (Some (Postulate x a)) = refl
  decl_type-map (Some (Family d)) = refl
  decl_type-map (Some (Open x a)) = refl
  decl_type-map (Some (Function x a qs T)) = refl

  pub def_type-map : (g : Signature A) (d : ℕ) → def_type (signature_map f g) d ≡ option_map f (def_type g d)
  def_type-map g d = ap (λ o. option_and_then decl_type o) (ap (λ ds. slice_get ds d) (defs-map g) ∙ slice_get-map (decl_map f) (defs g) d) ∙ decl_type-map (slice_get (defs g) d)

entry_type : (x a : ℕ) (s : DefState) → decl_type (state_decl x a s) ≡ Some a
entry_type x a S.Postulate = refl
entry_type x a S.Open = refl
entry_type x a (S.Closed qs T) = refl

-- the type of a postulate or function, as a tree
pub entry_type_in : (p : Pool) (g : Signature ℕ) (d : ℕ) (e : DefEntry) → def_decl g d ≡ Some (entry_decl e) → def_type (signature_in p g) d ≡ Some (tree p e.ty)
entry_type_in p g d e is = def_type-map (tree p) g d ∙ rw (is, entry_type e.name e.ty e.state) refl
