-- Declarations with each of their terms replaced by what a function makes of it, and what it is that each of their terms has a property.
use Rattle.std.specs.Prelude.{map, Option, Some, None, option_map}
use Rattle.std.specs.List.{AllByRecursion}
use Rattle.core_rules.specs.Signature.{Entry, Telescope, CorePat, PatShape, CorePats, Pat, VarPat, SolvedPat, DottedPat, ConPat, AbsurdPat, ProjectionPat, NoPat, AndPat, Solved, Dot, CheckedLeft, CoreClause, Branch, Tree, CoBranches, ConBranches, Leaf, Intro, Cosplit, Split, RecordSplit, Absurd, NoField, OnField, NoCon, Refuted, Goes, ConDecl, FamDecl, Decl, Postulate, Family, Open, Function, Signature}

module _ {A B : Type 0} (f : A → B) where
  abbrev pub entry_map : Entry A → Entry B
  entry_map e = record { name = e.name; flag = e.flag; ty = f e.ty }

  abbrev pub telescope_map : Telescope A → Telescope B
  telescope_map es = map entry_map es

  abbrev mutual
    pub pat_map : CorePat A → CorePat B
    pat_map (Pat p o b) = Pat (shape_map p) o b

    pub shape_map : PatShape A → PatShape B
    shape_map (VarPat i) = VarPat i
    shape_map (SolvedPat t) = SolvedPat (f t)
    shape_map (DottedPat t) = DottedPat (f t)
    shape_map (ConPat k ps) = ConPat k (pats_map ps)
    shape_map AbsurdPat = AbsurdPat
    shape_map (ProjectionPat k) = ProjectionPat k

    pub pats_map : CorePats A → CorePats B
    pats_map NoPat = NoPat
    pats_map (AndPat p ps) = AndPat (pat_map p) (pats_map ps)

  abbrev pub solved_map : Solved A → Solved B
  solved_map s = record { name = s.name; value = f s.value; ty = f s.ty }

  abbrev pub dot_map : Dot A → Dot B
  dot_map d = record { at = d.at; value = f d.value; ty = f d.ty }

  abbrev pub left_map : CheckedLeft A → CheckedLeft B
  left_map l = record { context = telescope_map l.context; pats = pats_map l.pats; ty = f l.ty; named = map solved_map l.named; dots = map dot_map l.dots; inserted = l.inserted }

  abbrev pub clause_map : CoreClause A → CoreClause B
  clause_map q = record { left = left_map q.left; right = option_map f q.right }

  abbrev pub branch_map : Branch A → Branch B
  branch_map b = record { context = telescope_map b.context; values = map f b.values; keep = b.keep }

  abbrev mutual
    pub tree_map : Tree A → Tree B
    tree_map (Leaf t n) = Leaf (f t) n
    tree_map (Intro T) = Intro (tree_map T)
    tree_map (Cosplit bs) = Cosplit (co_branches_map bs)
    tree_map (Split k bs) = Split k (con_branches_map bs)
    tree_map (RecordSplit k d T) = RecordSplit k d (tree_map T)
    tree_map (Absurd k) = Absurd k

    pub co_branches_map : CoBranches A → CoBranches B
    co_branches_map NoField = NoField
    co_branches_map (OnField n T bs) = OnField n (tree_map T) (co_branches_map bs)

    pub con_branches_map : ConBranches A → ConBranches B
    con_branches_map NoCon = NoCon
    con_branches_map (Refuted k bs) = Refuted k (con_branches_map bs)
    con_branches_map (Goes k b T bs) = Goes k (branch_map b) (tree_map T) (con_branches_map bs)

  abbrev pub con_map : ConDecl A → ConDecl B
  con_map c = record { name = c.name; args = telescope_map c.args; indices = map f c.indices }

  abbrev pub fam_map : FamDecl A → FamDecl B
  fam_map d = record { name = d.name; params = telescope_map d.params; indices = telescope_map d.indices; level = d.level; is_record = d.is_record; cons = map con_map d.cons; fields = telescope_map d.fields; eta = d.eta; coinductive = d.coinductive }

  abbrev pub decl_map : Decl A → Decl B
  decl_map (Postulate x a) = Postulate x (f a)
  decl_map (Family d) = Family (fam_map d)
  decl_map (Open x a) = Open x (f a)
  decl_map (Function x a qs T) = Function x (f a) (map clause_map qs) (tree_map T)

  abbrev pub signature_map : Signature A → Signature B
  signature_map g = map decl_map g

module _ {A : Type 0} (P : A → Type 0) where
  abbrev pub AllEntries : Telescope A → Type 0
  AllEntries es = AllByRecursion (λ e. P e.ty) es

  abbrev mutual
    pub AllPat : CorePat A → Type 0
    AllPat (Pat p o b) = AllShape p

    pub AllShape : PatShape A → Type 0
    AllShape (VarPat i) = Unit {0}
    AllShape (SolvedPat t) = P t
    AllShape (DottedPat t) = P t
    AllShape (ConPat k ps) = AllPats ps
    AllShape AbsurdPat = Unit {0}
    AllShape (ProjectionPat k) = Unit {0}

    pub AllPats : CorePats A → Type 0
    AllPats NoPat = Unit {0}
    AllPats (AndPat p ps) = AllPat p × AllPats ps

  pub record AllLeft (l : CheckedLeft A) : Type 0 where
    pub context : AllEntries l.context
    pub pats : AllPats l.pats
    pub ty : P l.ty
    pub named : AllByRecursion (λ s. P s.value × P s.ty) l.named
    pub dots : AllByRecursion (λ d. P d.value × P d.ty) l.dots

  abbrev pub AllRight : Option A → Type 0
  AllRight None = Unit {0}
  AllRight (Some t) = P t

  pub record AllClause (q : CoreClause A) : Type 0 where
    pub left : AllLeft q.left
    pub right : AllRight q.right

  pub record AllBranch (b : Branch A) : Type 0 where
    pub context : AllEntries b.context
    pub values : AllByRecursion P b.values

  abbrev mutual
    pub AllTree : Tree A → Type 0
    AllTree (Leaf t n) = P t
    AllTree (Intro T) = AllTree T
    AllTree (Cosplit bs) = AllCoBranches bs
    AllTree (Split k bs) = AllConBranches bs
    AllTree (RecordSplit k d T) = AllTree T
    AllTree (Absurd k) = Unit {0}

    pub AllCoBranches : CoBranches A → Type 0
    AllCoBranches NoField = Unit {0}
    AllCoBranches (OnField n T bs) = AllTree T × AllCoBranches bs

    pub AllConBranches : ConBranches A → Type 0
    AllConBranches NoCon = Unit {0}
    AllConBranches (Refuted k bs) = AllConBranches bs
    AllConBranches (Goes k b T bs) = AllBranch b × AllTree T × AllConBranches bs

  pub record AllCon (c : ConDecl A) : Type 0 where
    pub args : AllEntries c.args
    pub indices : AllByRecursion P c.indices

  pub record AllFamily (d : FamDecl A) : Type 0 where
    pub params : AllEntries d.params
    pub indices : AllEntries d.indices
    pub cons : AllByRecursion AllCon d.cons
    pub fields : AllEntries d.fields

  -- P holds of every term of the declaration
  abbrev pub AllDecl : Decl A → Type 0
  AllDecl (Postulate x a) = P a
  AllDecl (Family d) = AllFamily d
  AllDecl (Open x a) = P a
  AllDecl (Function x a qs T) = P a × AllByRecursion AllClause qs × AllTree T
