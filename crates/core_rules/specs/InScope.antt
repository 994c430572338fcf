-- What stands of every term, telescope, clause, tree and declaration that is handed in: it is in scope, and families have their shape.
use Rattle.std.specs.Prelude.{◌≡◌, ℕ, ◌+◌, ◌-◌, ◌<◌, true, false, List, [], ◌∷◌, ◌++◌, length, sum, take, slice_get, Option, Some, None, option_map, option_and_then}
use Rattle.std.specs.Option.{option_map_or}
use Rattle.std.specs.List.{AllByRecursion}
use Rattle.core_rules.specs.Term.{Term, Terms, Var, Sort, Pi, Lam, App, Def, Fam, Con, Proj, Meta, End, And, to_list, AllMetas}
use Rattle.core_rules.specs.Signature.{Telescope, CorePat, PatShape, CorePats, Pat, VarPat, SolvedPat, DottedPat, ConPat, AbsurdPat, ProjectionPat, NoPat, AndPat, CheckedLeft, CoreClause, Branch, Tree, CoBranches, ConBranches, Leaf, Intro, Cosplit, Split, RecordSplit, Absurd, NoField, OnField, NoCon, Refuted, Goes, ConDecl, FamDecl, Decl, Postulate, Family, Open, Function, Signature, defs, fams, con_counts, field_counts, con_place, con_decl, fam_decl, without_cons}

-- the number of parameters of a constructor's family
abbrev pub con_params : {A : Type 0} → Signature A → ℕ → Option ℕ
con_params g k = option_and_then (λ p. option_map (λ d. length d.params) (fam_decl g p.0)) (con_place g k)

abbrev pub field_count : {A : Type 0} → Signature A → ℕ → ℕ
field_count g d = option_map_or (λ d. length d.fields) (fam_decl g d) 0

-- the number of arguments of a constructor
abbrev pub arg_count : {A : Type 0} → Signature A → ℕ → ℕ
arg_count g k = option_map_or (λ c. length c.args) (con_decl g k) 0

-- where neither metavariables nor solutions are handed in, any metavariable stands at any number of arguments
abbrev pub any_meta : ℕ → ℕ → Type 0
any_meta m n = Unit {0}

-- the ids are those of the signature g, which may be one of ids as well as of trees; M m n says that metavariable m may stand at n arguments
module _ {A : Type 0} (g : Signature A) (M : ℕ → ℕ → Type 0) where
  abbrev mutual
    -- in a context of n entries
    pub InScope : ℕ → Term → Type 0
    InScope n (Var i) = i < n
    InScope n (Sort l) = Unit {0}
    InScope n (Pi b x a t) = InScope n a × InScope (n + 1) t
    InScope n (Lam b x a t) = InScope n a × InScope (n + 1) t
    InScope n (App b t u) = InScope n t × InScope n u
    InScope n (Def f) = f < length (defs g)
    InScope n (Fam d) = d < length (fams g)
    InScope n (Con k ts) = (con_params g k ≡ Some (length (to_list ts))) × AllInScope n ts
    InScope n (Proj f t) = (f < sum (field_counts g)) × InScope n t
    InScope n (Meta m ts) = M m (length (to_list ts)) × AllInScope n ts

    pub AllInScope : ℕ → Terms → Type 0
    AllInScope n End = Unit {0}
    AllInScope n (And t ts) = InScope n t × AllInScope n ts

  -- each entry under those before it, in a context of n entries
  abbrev pub TelescopeInScope : ℕ → Telescope Term → Type 0
  TelescopeInScope n [] = Unit {0}
  TelescopeInScope n (e ∷ es) = InScope n e.ty × TelescopeInScope (n + 1) es

  abbrev mutual
    pub PatInScope : ℕ → CorePat Term → Type 0
    PatInScope n (Pat p o b) = ShapeInScope n p

    pub ShapeInScope : ℕ → PatShape Term → Type 0
    ShapeInScope n (VarPat i) = i < n
    ShapeInScope n (SolvedPat t) = InScope n t
    ShapeInScope n (DottedPat t) = InScope n t
    ShapeInScope n (ConPat k ps) = (k < sum (con_counts g)) × PatsInScope n ps
    ShapeInScope n AbsurdPat = Unit {0}
    ShapeInScope n (ProjectionPat f) = f < sum (field_counts g)

    pub PatsInScope : ℕ → CorePats Term → Type 0
    PatsInScope n NoPat = Unit {0}
    PatsInScope n (AndPat p ps) = PatInScope n p × PatsInScope n ps

  pub record LeftInScope (l : CheckedLeft Term) : Type 0 where
    pub context : TelescopeInScope 0 l.context
    pub pats : PatsInScope (length l.context) l.pats
    pub ty : InScope (length l.context) l.ty
    pub named : AllByRecursion (λ s. InScope (length l.context) s.value × InScope (length l.context) s.ty) l.named
    pub dots : AllByRecursion (λ d. InScope (length l.context) d.value × InScope (length l.context) d.ty) l.dots

  abbrev pub RightInScope : ℕ → Option Term → Type 0
  RightInScope n None = Unit {0}
  RightInScope n (Some t) = InScope n t

  pub record ClauseInScope (q : CoreClause Term) : Type 0 where
    pub left : LeftInScope q.left
    pub right : RightInScope (length q.left.context) q.right

  -- where the constructor's context has n entries
  pub record BranchInScope (n : ℕ) (b : Branch Term) : Type 0 where
    pub context : TelescopeInScope 0 b.context
    pub values : AllByRecursion (λ t. InScope (length b.context) t) b.values
    pub keep : AllByRecursion (λ i. i < n) b.keep

  abbrev mutual
    pub TreeInScope : ℕ → Tree Term → Type 0
    TreeInScope n (Leaf t q) = InScope n t
    TreeInScope n (Intro T) = TreeInScope (n + 1) T
    TreeInScope n (Cosplit bs) = CoBranchesInScope n bs
    TreeInScope n (Split k bs) = (k < n) × ConBranchesInScope n bs
    TreeInScope n (RecordSplit k d T) = (k < n) × (d < length (fams g)) × TreeInScope (n + field_count g d - 1) T
    TreeInScope n (Absurd k) = k < n

    pub CoBranchesInScope : ℕ → CoBranches Term → Type 0
    CoBranchesInScope n NoField = Unit {0}
    CoBranchesInScope n (OnField f T bs) = (f < sum (field_counts g)) × TreeInScope n T × CoBranchesInScope n bs

    pub ConBranchesInScope : ℕ → ConBranches Term → Type 0
    ConBranchesInScope n NoCon = Unit {0}
    ConBranchesInScope n (Refuted k bs) = (k < sum (con_counts g)) × ConBranchesInScope n bs
    ConBranchesInScope n (Goes k b T bs) = (k < sum (con_counts g)) × BranchInScope (n + arg_count g k - 1) b × TreeInScope (length b.context) T × ConBranchesInScope n bs

-- a data type has no fields, no eta, and is not coinductive
pub record IsDataShape {A : Type 0} (d : FamDecl A) : Type 0 where
  pub fields : d.fields ≡ []
  pub eta : d.eta ≡ false
  pub coinductive : d.coinductive ≡ false

-- a record has no indices and one constructor, whose arguments are its fields; it has eta only where it has a field and is not coinductive
pub record IsRecordShape {A : Type 0} (d : FamDecl A) : Type 0 where
  pub indices : d.indices ≡ []
  pub con : ConDecl A
  pub cons : d.cons ≡ con ∷ []
  pub args : con.args ≡ d.fields
  pub some_field : d.eta ≡ true → 0 < length d.fields
  pub inductive : d.eta ≡ true → d.coinductive ≡ false

pub record HasShape {A : Type 0} (d : FamDecl A) : Type 0 where
  pub of_data : d.is_record ≡ false → IsDataShape d
  pub of_record : d.is_record ≡ true → IsRecordShape d

abbrev pub FamiliesHaveShape : {A : Type 0} → Signature A → Type 0
FamiliesHaveShape {A} g = (d : ℕ) (decl : FamDecl A) → fam_decl g d ≡ Some decl → HasShape decl

module _ (g : Signature Term) (M : ℕ → ℕ → Type 0) where
  -- under n parameters
  pub record ConInScope (n : ℕ) (c : ConDecl Term) : Type 0 where
    pub args : TelescopeInScope g M n c.args
    pub indices : AllByRecursion (λ t. InScope g M (n + length c.args) t) c.indices

-- a declaration over the signature g: its own id stands where it is known while it is checked, in the types of constructors and fields
-- of a family and in the tree of a function. Nothing is asked of the clauses, of which typing, conversion and head forms know nothing
module _ (g : Signature Term) (M : ℕ → ℕ → Type 0) where
  pub record FamilyInScope (d : FamDecl Term) : Type 0 where
    pub shape : HasShape d
    pub params : TelescopeInScope g M 0 d.params
    pub indices : TelescopeInScope g M (length d.params) d.indices
    pub cons : AllByRecursion (ConInScope (g ++ Family (without_cons d) ∷ []) M (length d.params)) d.cons
    pub fields : TelescopeInScope (g ++ Family (without_cons d) ∷ []) M (length d.params) d.fields

  abbrev pub DeclInScope : Decl Term → Type 0
  DeclInScope (Postulate x a) = InScope g M 0 a
  DeclInScope (Family d) = FamilyInScope d
  DeclInScope (Open x a) = InScope g M 0 a
  DeclInScope (Function x a qs T) = InScope g M 0 a × TreeInScope (g ++ Open x a ∷ []) M 0 T

-- each declaration over those before it
abbrev pub SignatureInScope : Signature Term → (ℕ → ℕ → Type 0) → Type 0
SignatureInScope g M = (i : ℕ) (d : Decl Term) → slice_get g i ≡ Some d → DeclInScope (take i g) M d

-- the clauses of each function over the declarations before it, where the function is known without clauses and tree
abbrev pub ClausesInScope : Signature Term → (ℕ → ℕ → Type 0) → Type 0
ClausesInScope g M = (i x : ℕ) (a : Term) (qs : List (CoreClause Term)) (T : Tree Term) → slice_get g i ≡ Some (Function x a qs T) → AllByRecursion (ClauseInScope (take i g ++ Open x a ∷ []) M) qs

-- the variables of t lie below n
abbrev mutual
  pub VarsBelow : ℕ → Term → Type 0
  VarsBelow n (Var i) = i < n
  VarsBelow n (Sort l) = Unit {0}
  VarsBelow n (Pi b x a t) = VarsBelow n a × VarsBelow (n + 1) t
  VarsBelow n (Lam b x a t) = VarsBelow n a × VarsBelow (n + 1) t
  VarsBelow n (App b t u) = VarsBelow n t × VarsBelow n u
  VarsBelow n (Def f) = Unit {0}
  VarsBelow n (Fam d) = Unit {0}
  VarsBelow n (Con k ts) = AllVarsBelow n ts
  VarsBelow n (Proj f t) = VarsBelow n t
  VarsBelow n (Meta m ts) = AllVarsBelow n ts

  pub AllVarsBelow : ℕ → Terms → Type 0
  AllVarsBelow n End = Unit {0}
  AllVarsBelow n (And t ts) = VarsBelow n t × AllVarsBelow n ts

-- where a store of metavariables is handed in, which has for each the number of entries of its context: a metavariable stands at so many arguments
abbrev pub in_store : (ℕ → Option ℕ) → ℕ → ℕ → Type 0
in_store counts m n = counts m ≡ Some n

-- where only solutions s are handed in: a metavariable that is solved stands at more arguments than its solution has variables
abbrev pub solved_at : (ℕ → Option Term) → ℕ → ℕ → Type 0
solved_at s m n = (t : Term) → s m ≡ Some t → VarsBelow n t

-- the solution of a metavariable is in scope in a context of as many entries as arguments at which the metavariable may stand
abbrev pub SolutionsInScope : {A : Type 0} → Signature A → (ℕ → ℕ → Type 0) → (ℕ → Option Term) → Type 0
SolutionsInScope g M s = (m n : ℕ) (t : Term) → M m n → s m ≡ Some t → InScope g M n t

-- solutions are acyclic: metavariables have ranks, and those that stand in a solution have lower ranks than the one that is solved
pub record IsAcyclic (s : ℕ → Option Term) : Type 0 where
  pub rank : ℕ → ℕ
  pub falls : (m : ℕ) (t : Term) → s m ≡ Some t → AllMetas (λ k. rank k < rank m) t
