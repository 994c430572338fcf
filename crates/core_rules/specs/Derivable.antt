-- When a signature is derivable.
use Rattle.std.specs.Prelude.{◌≡◌, ℕ, ◌≤◌, List, [], ◌∷◌, ◌++◌, length, take, slice_get, Some}
use Rattle.core_rules.specs.Term.{Term, Sort, Def, HasNoMeta}
use Rattle.core_rules.specs.Signature.{Entry, Telescope, Context, onto, CoreClause, Tree, ConDecl, FamDecl, Decl, Postulate, Family, Open, Function, Signature, defs, fams, without_cons}
use Rattle.core_rules.specs.Mapped.{AllDecl}
use Rattle.core_rules.specs.Elimination.{con_type}
use Rattle.core_rules.specs.Typing.{Typing, WellFormed, HasSort}
use Rattle.core_rules.specs.TypedTree.{TypedTree}
use Rattle.core_rules.specs.InScope.{HasShape}

-- each entry has, in c and the entries before it, a sort of at most the level
pub data IsWithin (g : Signature Term) (level : ℕ) : Context Term → Telescope Term → Type 0 where
  none : {c : Context Term} → IsWithin g level c []
  more : {c : Context Term} {e : Entry Term} {es : Telescope Term} {n : ℕ} → Typing g c e.ty (Sort n) → n ≤ level → IsWithin g level (e ∷ c) es → IsWithin g level c (e ∷ es)

-- a constructor of family number n over g, which knows the family: its type, which ends in the family at its parameters and then
-- as many indices as the family has, has a sort, and no level of an argument is above the family's
pub record GoodCon (g : Signature Term) (n : ℕ) (d : FamDecl Term) (k : ConDecl Term) : Type 0 where
  pub sorted : HasSort g (onto d.params []) (con_type n d k)
  pub as_many : length k.indices ≡ length d.indices
  pub within : IsWithin g d.level (onto d.params []) k.args

-- over g a family is good: its parameters and indices form a well formed context, and with the family known
-- its constructors are good and no level of a field is above the family's
pub record GoodFamily (g : Signature Term) (d : FamDecl Term) : Type 0 where
  pub shape : HasShape d
  pub context : WellFormed g (onto d.indices (onto d.params []))
  pub cons : (i : ℕ) (k : ConDecl Term) → slice_get d.cons i ≡ Some k → GoodCon (g ++ Family (without_cons d) ∷ []) (length (fams g)) d k
  pub fields : IsWithin (g ++ Family (without_cons d) ∷ []) d.level (onto d.params []) d.fields

-- over g a declaration is good. A function that is known without clauses and tree is never good
pub data Good (g : Signature Term) : Decl Term → Type 0 where
  postulate : {x : ℕ} {a : Term} → HasSort g [] a → Good g (Postulate x a)
  family : {d : FamDecl Term} → GoodFamily g d → Good g (Family d)
  -- the tree is typed while the function is known without clauses and tree
  function : {x : ℕ} {a : Term} {qs : List (CoreClause Term)} {T : Tree Term} → HasSort g [] a → TypedTree (g ++ Open x a ∷ []) [] T a (Def (length (defs g))) → Good g (Function x a qs T)

-- each declaration is good over those before it, and no metavariable stands in it
pub record Derivable (g : Signature Term) : Type 0 where
  pub good : (i : ℕ) (d : Decl Term) → slice_get g i ≡ Some d → Good (take i g) d
  pub no_meta : (i : ℕ) (d : Decl Term) → slice_get g i ≡ Some d → AllDecl HasNoMeta d
