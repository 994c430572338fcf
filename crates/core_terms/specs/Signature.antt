-- What declarations in code are to the rules: declarations over ids, which a pool makes declarations over trees.
use Rattle.std.specs.Prelude.{◌≡◌, ℕ, ◌<◌, length, map, sum, List, [], ◌∷◌, false, Some, zero, suc}
use Rattle.std.specs.List.{AllByRecursion}
use Rattle.core_rules.specs.Term.{Term}
use Rattle.core_rules.specs.Signature.{Decl, FamDecl, CoreClause, Tree, Postulate, Family, Open, Function, Signature, con_counts, field_counts, def_decl, numbers}
use Rattle.core_rules.specs.Mapped.{AllDecl, signature_map}
use Rattle.core_terms.specs.declared.signature.CoreDecl.{CoreDecl}
use Rattle.core_terms.specs.declared.signature.CoreDecl.TheVariants as C
use Rattle.core_terms.specs.declared.signature.DefState.{DefState}
use Rattle.core_terms.specs.declared.signature.DefState.TheVariants as S
use Rattle.core_terms.specs.declared.signature.DefEntry.{DefEntry}
use Rattle.term_pool.specs.Pool.{Pool, tree}

-- the family that a declaration is, where it is one
abbrev pub fam_of : CoreDecl → FamDecl ℕ
fam_of (C.Postulate x a) = record { name = 0; params = []; indices = []; level = 0; is_record = false; cons = []; fields = []; eta = false; coinductive = false }
fam_of (C.Function x a qs T) = record { name = 0; params = []; indices = []; level = 0; is_record = false; cons = []; fields = []; eta = false; coinductive = false }
fam_of (C.Family x ps is l r cs fs e k) = record { name = x; params = ps; indices = is; level = l; is_record = r; cons = cs; fields = fs; eta = e; coinductive = k }

abbrev pub decl_of : CoreDecl → Decl ℕ
decl_of (C.Postulate x a) = Postulate x a
decl_of (C.Function x a qs T) = Function x a qs T
decl_of (C.Family x ps is l r cs fs e k) = Family (record { name = x; params = ps; indices = is; level = l; is_record = r; cons = cs; fields = fs; eta = e; coinductive = k })

-- the declaration of a postulate or function with this name and type
abbrev pub state_decl : ℕ → ℕ → DefState → Decl ℕ
state_decl x a S.Postulate = Postulate x a
state_decl x a S.Open = Open x a
state_decl x a (S.Closed qs T) = Function x a qs T

abbrev pub entry_decl : DefEntry → Decl ℕ
entry_decl e = state_decl e.name e.ty e.state

-- how many constructors and fields there are
abbrev pub con_total : Signature ℕ → ℕ
con_total g = sum (con_counts g)

abbrev pub field_total : Signature ℕ → ℕ
field_total g = sum (field_counts g)

-- the first n places of family d
abbrev pub places_of : ℕ → ℕ → List (ℕ × ℕ)
places_of d n = map (λ i. (d, i)) (numbers 0 n)

-- f is a function without a tree
pub record IsOpen (g : Signature ℕ) (f : ℕ) : Type 0 where
  pub name : ℕ
  pub ty : ℕ
  pub is : def_decl g f ≡ Some (Open name ty)

-- the entry with these clauses and this tree
abbrev pub closed_entry : DefEntry → List (CoreClause ℕ) → Tree ℕ → DefEntry
closed_entry d qs T = record d { state = S.Closed qs T }

-- g where the function f, which has no tree, gets these clauses and this tree
abbrev pub closed_at : Signature ℕ → ℕ → List (CoreClause ℕ) → Tree ℕ → Signature ℕ
closed_at [] f qs T = []
closed_at (Family d ∷ g) f qs T = Family d ∷ closed_at g f qs T
closed_at (Postulate x a ∷ g) zero qs T = Postulate x a ∷ g
closed_at (Postulate x a ∷ g) (suc f) qs T = Postulate x a ∷ closed_at g f qs T
closed_at (Function x a rs U ∷ g) zero qs T = Function x a rs U ∷ g
closed_at (Function x a rs U ∷ g) (suc f) qs T = Function x a rs U ∷ closed_at g f qs T
closed_at (Open x a ∷ g) zero qs T = Function x a qs T ∷ g
closed_at (Open x a ∷ g) (suc f) qs T = Open x a ∷ closed_at g f qs T

-- each id of a term in g stands in p
abbrev pub Stands : Pool → Signature ℕ → Type 0
Stands p g = AllByRecursion (AllDecl (λ t. t < length p.trees)) g

-- the signature of trees that g is, by the pool in which its ids stand
abbrev pub signature_in : Pool → Signature ℕ → Signature Term
signature_in p g = signature_map (tree p) g
