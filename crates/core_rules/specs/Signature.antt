-- Declarations and signatures over terms of any type A (ids in code, trees in the rules), and what an id names.
use Rattle.std.specs.Prelude.{ℕ, ◌+◌, Bool, false, cond, eqb, List, [], ◌∷◌, ◌++◌, length, map, sum, take, get_or, slice_get, Option, Some, None, option_and_then, zero, suc}
use Rattle.core_rules.specs.declared.Flag.{Flag}

-- one variable with its type
pub record Entry (A : Type 0) : Type 0 where
  pub name : ℕ
  pub flag : Flag
  pub ty : A

-- the outermost entry first; each type stands under those before it
abbrev pub Telescope : Type 0 → Type 0
Telescope A = List (Entry A)

-- the innermost entry first, so that variable i has place i; each type stands under those after it
abbrev pub Context : Type 0 → Type 0
Context A = List (Entry A)

-- the context c with the entries of a telescope inside it
abbrev pub onto : {A : Type 0} → Telescope A → Context A → Context A
onto [] c = c
onto (e ∷ es) c = onto es (e ∷ c)

-- where a pattern comes from: a constructor, projection, dotted or absurd pattern that the clause writes; a variable that
-- it writes, and whether its name is new, no clause having it; an underscore; or nothing that it writes
pub data Origin : Type 0 where
  Written : Origin
  Variable : ℕ → Bool → Origin
  Underscore : Origin
  Inserted : Origin

-- how a pattern is written: without braces, in braces, in braces with the name of the binder
pub data Braces : Type 0 where
  Without : Braces
  Plain : Braces
  Named : ℕ → Braces

-- a variable of the context, a solved variable with its value, a dotted pattern with its value, a constructor with its
-- patterns, `()`, a projection
mutual
  pub data CorePat (A : Type 0) : Type 0 where
    Pat : PatShape A → Origin → Braces → CorePat A

  pub data PatShape (A : Type 0) : Type 0 where
    VarPat : ℕ → PatShape A
    SolvedPat : A → PatShape A
    DottedPat : A → PatShape A
    ConPat : ℕ → CorePats A → PatShape A
    AbsurdPat : PatShape A
    ProjectionPat : ℕ → PatShape A

  pub data CorePats (A : Type 0) : Type 0 where
    NoPat : CorePats A
    AndPat : CorePat A → CorePats A → CorePats A

-- a written name that stands for a value
pub record Solved (A : Type 0) : Type 0 where
  pub name : ℕ
  pub value : A
  pub ty : A

-- the dotted pattern that is number `at` of its clause, counted from the left from 0
pub record Dot (A : Type 0) : Type 0 where
  pub at : ℕ
  pub value : A
  pub ty : A

-- the checked left side of a clause; `inserted` counts the patterns that it does not write
pub record CheckedLeft (A : Type 0) : Type 0 where
  pub context : Telescope A
  pub pats : CorePats A
  pub ty : A
  pub named : List (Solved A)
  pub dots : List (Dot A)
  pub inserted : ℕ

-- a checked clause, whose right side is missing where a pattern is `()`
pub record CoreClause (A : Type 0) : Type 0 where
  pub left : CheckedLeft A
  pub right : Option A

-- What is below a split on a constructor. The constructor's context is the split one with the constructor's arguments in the place of the
-- variable that is split. `context` is the branch's own; `values` has for each variable of the constructor's context its value in this one;
-- `keep` has for each variable of this one the variable of the constructor's context that it is. Both lists stand innermost first
pub record Branch (A : Type 0) : Type 0 where
  pub context : Telescope A
  pub values : List A
  pub keep : List ℕ

-- Leaf has its body and the number of its clause. Split, RecordSplit and Absurd have the variable that is split,
-- and RecordSplit its record. Absurd is a split all of whose constructors are refuted
mutual
  pub data Tree (A : Type 0) : Type 0 where
    Leaf : A → ℕ → Tree A
    Intro : Tree A → Tree A
    Cosplit : CoBranches A → Tree A
    Split : ℕ → ConBranches A → Tree A
    RecordSplit : ℕ → ℕ → Tree A → Tree A
    Absurd : ℕ → Tree A

  -- one branch for each field
  pub data CoBranches (A : Type 0) : Type 0 where
    NoField : CoBranches A
    OnField : ℕ → Tree A → CoBranches A → CoBranches A

  -- one branch for each constructor, which is refuted or goes on
  pub data ConBranches (A : Type 0) : Type 0 where
    NoCon : ConBranches A
    Refuted : ℕ → ConBranches A → ConBranches A
    Goes : ℕ → Branch A → Tree A → ConBranches A → ConBranches A

-- a constructor: its arguments under the parameters of its family, and the indices at which it ends under both
pub record ConDecl (A : Type 0) : Type 0 where
  pub name : Option ℕ
  pub args : Telescope A
  pub indices : List A

-- a data type or a record
pub record FamDecl (A : Type 0) : Type 0 where
  pub name : ℕ
  pub params : Telescope A
  pub indices : Telescope A
  pub level : ℕ
  pub is_record : Bool
  pub cons : List (ConDecl A)
  pub fields : Telescope A
  pub eta : Bool
  pub coinductive : Bool

-- a postulate, a family, a function that is known without clauses and tree, a function with both
pub data Decl (A : Type 0) : Type 0 where
  Postulate : ℕ → A → Decl A
  Family : FamDecl A → Decl A
  Open : ℕ → A → Decl A
  Function : ℕ → A → List (CoreClause A) → Tree A → Decl A

-- the declarations in order
abbrev pub Signature : Type 0 → Type 0
Signature A = List (Decl A)

-- a family as it is known before its constructors and fields: a data type without constructors, also where it is a record
abbrev pub without_cons : {A : Type 0} → FamDecl A → FamDecl A
without_cons d = record d { is_record = false; cons = []; fields = []; eta = false; coinductive = false }

-- What an id names. Postulates and functions are counted by ids of one kind, families by those of another,
-- constructors by those of a third, fields by those of a fourth, each from 0 in the order of declaration

-- the postulates and functions
abbrev pub defs : {A : Type 0} → Signature A → List (Decl A)
defs [] = []
defs (Postulate x a ∷ g) = Postulate x a ∷ defs g
defs (Family d ∷ g) = defs g
defs (Open x a ∷ g) = Open x a ∷ defs g
defs (Function x a qs T ∷ g) = Function x a qs T ∷ defs g

-- the families
abbrev pub fams : {A : Type 0} → Signature A → List (FamDecl A)
fams [] = []
fams (Postulate x a ∷ g) = fams g
fams (Family d ∷ g) = d ∷ fams g
fams (Open x a ∷ g) = fams g
fams (Function x a qs T ∷ g) = fams g

abbrev pub decl_type : {A : Type 0} → Decl A → Option A
decl_type (Postulate x a) = Some a
decl_type (Family d) = None
decl_type (Open x a) = Some a
decl_type (Function x a qs T) = Some a

abbrev pub decl_tree : {A : Type 0} → Decl A → Option (Tree A)
decl_tree (Postulate x a) = None
decl_tree (Family d) = None
decl_tree (Open x a) = None
decl_tree (Function x a qs T) = Some T

abbrev pub decl_name : {A : Type 0} → Decl A → ℕ
decl_name (Postulate x a) = x
decl_name (Family d) = d.name
decl_name (Open x a) = x
decl_name (Function x a qs T) = x

abbrev pub def_decl : {A : Type 0} → Signature A → ℕ → Option (Decl A)
def_decl g f = slice_get (defs g) f

abbrev pub def_type : {A : Type 0} → Signature A → ℕ → Option A
def_type g f = option_and_then decl_type (def_decl g f)

-- the case tree of a function; a postulate and a function that is known without a tree have none
abbrev pub tree_of : {A : Type 0} → Signature A → ℕ → Option (Tree A)
tree_of g f = option_and_then decl_tree (def_decl g f)

abbrev pub fam_decl : {A : Type 0} → Signature A → ℕ → Option (FamDecl A)
fam_decl g d = slice_get (fams g) d

-- n numbers from k on
abbrev pub numbers : ℕ → ℕ → List ℕ
numbers k zero = []
numbers k (suc n) = k ∷ numbers (k + 1) n

-- of families from number k on that have so many constructors (or fields) each: of each of these in order, its family and its place there
abbrev pub places : ℕ → List ℕ → List (ℕ × ℕ)
places k [] = []
places k (n ∷ ns) = map (λ i. (k, i)) (numbers 0 n) ++ places (k + 1) ns

abbrev pub con_counts : {A : Type 0} → Signature A → List ℕ
con_counts g = map (λ d. length d.cons) (fams g)

abbrev pub field_counts : {A : Type 0} → Signature A → List ℕ
field_counts g = map (λ d. length d.fields) (fams g)

-- the family of a constructor, and its place there
abbrev pub con_place : {A : Type 0} → Signature A → ℕ → Option (ℕ × ℕ)
con_place g k = slice_get (places 0 (con_counts g)) k

-- the family of a field, and its place there
abbrev pub field_place : {A : Type 0} → Signature A → ℕ → Option (ℕ × ℕ)
field_place g f = slice_get (places 0 (field_counts g)) f

abbrev pub con_decl : {A : Type 0} → Signature A → ℕ → Option (ConDecl A)
con_decl g k = option_and_then (λ p. option_and_then (λ d. slice_get d.cons p.1) (fam_decl g p.0)) (con_place g k)

-- the entry of a field, whose type stands under the parameters and the fields before it
abbrev pub field_entry : {A : Type 0} → Signature A → ℕ → Option (Entry A)
field_entry g f = option_and_then (λ p. option_and_then (λ d. slice_get d.fields p.1) (fam_decl g p.0)) (field_place g f)

-- item d of the counts, as ids in order after those of the items before it
abbrev pub ids_of : List ℕ → ℕ → List ℕ
ids_of ns d = numbers (sum (take d ns)) (get_or ns d 0)

-- the ids of the constructors of family d, in order
abbrev pub cons_of : {A : Type 0} → Signature A → ℕ → List ℕ
cons_of g d = ids_of (con_counts g) d

-- the ids of the fields of family d, in order
abbrev pub fields_of : {A : Type 0} → Signature A → ℕ → List ℕ
fields_of g d = ids_of (field_counts g) d

-- the branch of a field
abbrev pub co_branch : {A : Type 0} → CoBranches A → ℕ → Option (Tree A)
co_branch NoField f = None
co_branch (OnField n T bs) f = cond (eqb n f) (Some T) (co_branch bs f)

-- the branch of a constructor, where it goes on
abbrev pub con_branch : {A : Type 0} → ConBranches A → ℕ → Option (Branch A × Tree A)
con_branch NoCon k = None
con_branch (Refuted n bs) k = cond (eqb n k) None (con_branch bs k)
con_branch (Goes n b T bs) k = cond (eqb n k) (Some (b, T)) (con_branch bs k)
