-- What a typing of a term of each kind comes from.
use Rattle.std.specs.Prelude.{◌≡◌, ℕ, ◌+◌, max, List, [], ◌∷◌, length, slice_get, Some}
use Rattle.core_rules.specs.declared.Flag.{Flag}
use Rattle.core_rules.specs.Term.{Term, Terms, Sort, Pi, Fam, env_of}
use Rattle.core_rules.specs.Substitution.{shift, subst, under}
use Rattle.core_rules.specs.Signature.{Entry, Context, onto, Signature, FamDecl, def_type, fam_decl}
use Rattle.core_rules.specs.Elimination.{elims, args, fam_type, con_type}
use Rattle.core_rules.specs.Conversion.{Conv}
use Rattle.core_rules.specs.Typing.{Typing, Fits, IsCon, IsField, entry, field_env}

-- in each of these `a` is the type that the term was given, and `is` says to what it is convertible
pub record OfVariable (g : Signature Term) (c : Context Term) (i : ℕ) (a : Term) : Type 0 where
  pub entry : Entry Term
  pub stands : slice_get c i ≡ Some entry
  pub is : Conv g (shift entry.ty 0 (i + 1)) a

pub record OfPi (g : Signature Term) (c : Context Term) (b : Flag) (x : ℕ) (s t a : Term) : Type 0 where
  pub dom_level : ℕ
  pub cod_level : ℕ
  pub dom : Typing g c s (Sort dom_level)
  pub cod : Typing g (entry b x s ∷ c) t (Sort cod_level)
  pub is : Conv g (Sort (max dom_level cod_level)) a

pub record OfLam (g : Signature Term) (c : Context Term) (b : Flag) (x : ℕ) (s t a : Term) : Type 0 where
  pub name : ℕ
  pub level : ℕ
  pub cod : Term
  pub dom : Typing g c s (Sort level)
  pub body : Typing g (entry b x s ∷ c) t cod
  pub is : Conv g (Pi b name s cod) a

pub record OfApp (g : Signature Term) (c : Context Term) (b : Flag) (t u a : Term) : Type 0 where
  pub name : ℕ
  pub dom : Term
  pub cod : Term
  pub fun : Typing g c t (Pi b name dom cod)
  pub arg : Typing g c u dom
  pub is : Conv g (subst cod 0 u) a

pub record OfDef (g : Signature Term) (f : ℕ) (a : Term) : Type 0 where
  pub ty : Term
  pub declared : def_type g f ≡ Some ty
  pub is : Conv g ty a

pub record OfFam (g : Signature Term) (d : ℕ) (a : Term) : Type 0 where
  pub decl : FamDecl Term
  pub declared : fam_decl g d ≡ Some decl
  pub is : Conv g (fam_type decl) a

pub record OfCon (g : Signature Term) (c : Context Term) (k : ℕ) (ps : Terms) (a : Term) : Type 0 where
  pub con : IsCon g k
  pub params : Fits g c (env_of ps) (onto con.decl.params [])
  pub is : Conv g (under (env_of ps) (con_type con.fam con.decl con.con)) a

pub record OfProj (g : Signature Term) (c : Context Term) (f : ℕ) (t a : Term) : Type 0 where
  pub field : IsField g f
  pub params : List Term
  pub as_many : length params ≡ length field.decl.params
  pub of : Typing g c t (elims (Fam field.fam) (args field.decl.params params))
  pub is : Conv g (under (field_env g f field params t) field.entry.ty) a
