-- What a data or record declaration is elaborated to, or why it is refused and where.
use Rattle.std.specs.Prelude.{ℕ, Bool, true, false, ◌||◌, ◌&&◌, not, eqb, List, [], ◌∷◌, ◌++◌, length, map, Option, Some, None}
use Rattle.std.specs.List.{list_any}
use Rattle.core_rules.specs.Term.{Term, Terms, Var, Sort, Pi, Lam, App, Def, Fam, Con, Proj, Meta, End, And}
use Rattle.core_rules.specs.Signature.{Telescope, Signature, ConDecl, FamDecl, Family, fams}
use Rattle.kernel_rules.specs.Outcome.{Outcome, Then}
use Rattle.resolved_tree.specs.declared.resolved.ResolvedSignature.{ResolvedSignature}
use Rattle.resolved_tree.specs.declared.resolved.ResolvedItem.{ResolvedItem}
use Rattle.resolved_tree.specs.declared.resolved.ResolvedItem.TheVariants as item
use Rattle.resolved_tree.specs.declared.resolved.Resolved.{Resolved}
use Rattle.resolved_tree.specs.declared.resolved.Resolved.TheVariants as decl
use Rattle.written_rules.specs.Asking.{Comes}
use Rattle.written_rules.specs.Expressions.{ids, expr_meaning, binder_meaning}
use Rattle.data_rules.specs.Refusals.{Refusal}
use Rattle.data_rules.specs.Reading.{Reads, ◌>>=◌, gives}
use Rattle.data_rules.specs.Shapes.{most_shown}
use Rattle.data_rules.specs.Rules.{LineMeaning, inside, heading, con_lines, field_lines}

-- ---- data types: family number n, which is known as d

abbrev pub data_of : FamDecl Term → List (ConDecl Term) → FamDecl Term
data_of d ks = record d { cons = ks }

abbrev pub data_read : ℕ → FamDecl Term → List LineMeaning → Reads (FamDecl Term)
data_read n d ms = con_lines n d ms >>= (λ ks. gives (data_of d ks))

-- ---- the parts of a record

-- the lines of all its `field` blocks, in order
abbrev pub lines_of : List ResolvedItem → List ResolvedSignature
lines_of [] = []
lines_of (item.Field p ss ∷ is) = ss ++ lines_of is
lines_of (item.Inductive p ∷ is) = lines_of is
lines_of (item.Coinductive p ∷ is) = lines_of is
lines_of (item.«Constructor» p x ∷ is) = lines_of is

-- it says `coinductive`
abbrev pub is_coinductive : List ResolvedItem → Bool
is_coinductive [] = false
is_coinductive (item.Coinductive p ∷ is) = true
is_coinductive (item.Inductive p ∷ is) = is_coinductive is
is_coinductive (item.Field p ss ∷ is) = is_coinductive is
is_coinductive (item.«Constructor» p x ∷ is) = is_coinductive is

-- the name of its constructor, where it gives one
abbrev pub con_name : List ResolvedItem → Option ℕ
con_name [] = None
con_name (item.«Constructor» p x ∷ is) = Some x.id
con_name (item.Inductive p ∷ is) = con_name is
con_name (item.Coinductive p ∷ is) = con_name is
con_name (item.Field p ss ∷ is) = con_name is

-- ---- eta

-- whether family d stands in a term
abbrev mutual
  pub names_family : ℕ → Term → Bool
  names_family d (Var i) = false
  names_family d (Sort n) = false
  names_family d (Pi b x a t) = names_family d a || names_family d t
  names_family d (Lam b x a t) = names_family d a || names_family d t
  names_family d (App b t u) = names_family d t || names_family d u
  names_family d (Def f) = false
  names_family d (Fam k) = eqb k d
  names_family d (Con k ts) = names_family_in d ts
  names_family d (Proj f t) = names_family d t
  names_family d (Meta m ts) = names_family_in d ts

  pub names_family_in : ℕ → Terms → Bool
  names_family_in d End = false
  names_family_in d (And t ts) = names_family d t || names_family_in d ts

abbrev pub any_field : Telescope Term → Bool
any_field [] = false
any_field (e ∷ es) = true

-- record number n has eta where it has a field, is not coinductive, and does not stand in the types of its fields
abbrev pub has_eta : ℕ → Bool → Telescope Term → Bool
has_eta n c fs = any_field fs && (not c && not (list_any (λ e. names_family n e.ty) fs))

-- ---- records: family number n, which is known as d

-- the fields are the arguments of its one constructor
abbrev pub record_of : ℕ → FamDecl Term → List ResolvedItem → Telescope Term → FamDecl Term
record_of n d is fs = record d {
  is_record = true;
  cons = record { name = con_name is; args = fs; indices = [] } ∷ [];
  fields = fs;
  eta = has_eta n (is_coinductive is) fs;
  coinductive = is_coinductive is;
}

abbrev pub record_read : ℕ → FamDecl Term → List ResolvedItem → List LineMeaning → Reads (FamDecl Term)
record_read n d is ms = field_lines d.level (inside d.params []) ms >>= (λ fs. gives (record_of n d is fs))

-- ---- declarations

-- how a line is read over a signature
abbrev pub line_meaning : Signature Term → ResolvedSignature → LineMeaning
line_meaning g s = record { pos = s.place.pos; names = ids s.names; types = (expr_meaning g s.ty).types }

-- a data or record declaration
abbrev pub IsFamily : Resolved → Type 0
IsFamily (decl.«Data» p x bs e ss) = Unit {0}
IsFamily (decl.Record p x bs e is) = Unit {0}
IsFamily (decl.Postulate p ss) = ⊥
IsFamily (decl.Function p s qs) = ⊥
IsFamily (decl.Open p n b) = ⊥

-- over a signature, with this fuel for each head form and to this depth in each comparison
module _ (g : Signature Term) (fuel depth : ℕ) where
  -- The heading gives the family as it is known before its constructors and fields. What follows is read where the signature knows it so, with
  -- the next number
  abbrev pub Followed : Reads (FamDecl Term) → (FamDecl Term → List LineMeaning → Reads (FamDecl Term)) → List ResolvedSignature → Outcome Refusal (FamDecl Term) → Type 0
  Followed m k ss = Then (Comes g fuel depth m) (λ d. let h = g ++ Family d ∷ [] in Comes h fuel depth (k d (map (line_meaning h) ss)))

  -- The written rules of families. The type after the colon of a record shows no function type. Other declarations have no outcome
  abbrev pub WrittenFamilyOf : Resolved → Outcome Refusal (FamDecl Term) → Type 0
  WrittenFamilyOf (decl.«Data» p x bs e ss) = Followed (heading x.id most_shown (map (binder_meaning g) bs) (expr_meaning g e)) (data_read (length (fams g))) ss
  WrittenFamilyOf (decl.Record p x bs e is) = Followed (heading x.id 0 (map (binder_meaning g) bs) (expr_meaning g e)) (λ d. record_read (length (fams g)) d is) (lines_of is)
  WrittenFamilyOf (decl.Postulate p ss) = λ r. ⊥
  WrittenFamilyOf (decl.Function p s qs) = λ r. ⊥
  WrittenFamilyOf (decl.Open p n b) = λ r. ⊥
