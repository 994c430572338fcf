-- Two maps of declarations that agree at each term, and a property of each term that follows from another.
use Rattle.std.specs.Prelude.{◌≡◌, List, [], ◌∷◌, map, Option, Some, None, option_map, refl}
use Rattle.std.specs.List.{AllByRecursion}
use Rattle.core_rules.specs.Signature.{Entry, Telescope, CorePat, PatShape, CorePats, Pat, VarPat, SolvedPat, DottedPat, ConPat, AbsurdPat, ProjectionPat, NoPat, AndPat, Solved, Dot, CheckedLeft, CoreClause, Branch, Tree, CoBranches, ConBranches, Leaf, Intro, Cosplit, Split, RecordSplit, Absurd, NoField, OnField, NoCon, Refuted, Goes, ConDecl, FamDecl, Decl, Postulate, Family, Open, Function, Signature}
use Rattle.core_rules.specs.Mapped.{entry_map, telescope_map, pat_map, shape_map, pats_map, solved_map, dot_map, left_map, clause_map, branch_map, tree_map, co_branches_map, con_branches_map, con_map, fam_map, decl_map, signature_map, AllEntries, AllPat, AllShape, AllPats, AllLeft, AllRight, AllClause, AllBranch, AllTree, AllCoBranches, AllConBranches, AllCon, AllFamily, AllDecl}

module _ {A B : Type 0} (P : A → Type 0) (f h : A → B) (same : (t : A) → P t → f t ≡ h t) where
  map-same : {X Y : Type 0} (Q : X → Type 0) (g k : X → Y) → ((x : X) → Q x → g x ≡ k x) → (xs : List X) → AllByRecursion Q xs → map g xs ≡ map k xs
  map-same Q g k s [] a = refl
  map-same Q g k s (x ∷ xs) a = cc (s x a.0, map-same Q g k s xs a.1)

  entry_map-same : (e : Entry A) → P e.ty → entry_map f e ≡ entry_map h e
  entry_map-same e a = cc (same e.ty a)

  telescope_map-same : (es : Telescope A) → AllEntries P es → telescope_map f es ≡ telescope_map h es
  telescope_map-same es a = map-same (λ e. P e.ty) (entry_map f) (entry_map h) entry_map-same es a

  mutual
    pat_map-same : (p : CorePat A) → AllPat P p → pat_map f p ≡ pat_map h p
    pat_map-same (Pat p o b) a = cc (shape_map-same p a)

    shape_map-same : (p : PatShape A) → AllShape P p → shape_map f p ≡ shape_map h p
    shape_map-same (VarPat i) a = refl
    shape_map-same (SolvedPat t) a = cc (same t a)
    shape_map-same (DottedPat t) a = cc (same t a)
    shape_map-same (ConPat k ps) a = cc (pats_map-same ps a)
    shape_map-same AbsurdPat a = refl
    shape_map-same (ProjectionPat k) a = refl

    pats_map-same : (ps : CorePats A) → AllPats P ps → pats_map f ps ≡ pats_map h ps
    pats_map-same NoPat a = refl
    pats_map-same (AndPat p ps) a = cc (pat_map-same p a.0, pats_map-same ps a.1)

  solved_map-same : (s : Solved A) → P s.value × P s.ty → solved_map f s ≡ solved_map h s
  solved_map-same s a = cc (same s.value a.0, same s.ty a.1)

  dot_map-same : (d : Dot A) → P d.value × P d.ty → dot_map f d ≡ dot_map h d
  dot_map-same d a = cc (same d.value a.0, same d.ty a.1)

  left_map-same : (l : CheckedLeft A) → AllLeft P l → left_map f l ≡ left_map h l
  left_map-same l a =
      cc (
        telescope_map-same l.context a.context,
        pats_map-same l.pats a.pats,
        same l.ty a.ty,
        map-same (λ s. P s.value × P s.ty) (solved_map f) (solved_map h) solved_map-same l.named a.named,
        map-same (λ d. P d.value × P d.ty) (dot_map f) (dot_map h) dot_map-same l.dots a.dots,
      )

  right_map-same : (o : Option A) → AllRight P o → option_map f o ≡ option_map h o
  right_map-same None a = refl
  right_map-same (Some t) a = cc (same t a)

  clause_map-same : (q : CoreClause A) → AllClause P q → clause_map f q ≡ clause_map h q
  clause_map-same q a = cc (left_map-same q.left a.left, right_map-same q.right a.right)

  branch_map-same : (b : Branch A) → AllBranch P b → branch_map f b ≡ branch_map h b
  branch_map-same b a = cc (telescope_map-same b.context a.context, map-same P f h same b.values a.values)

  mutual
    tree_map-same : (T : Tree A) → AllTree P T → tree_map f T ≡ tree_map h T
    tree_map-same (Leaf t n) a = cc (same t a)
    tree_map-same (Intro T) a = cc (tree_map-same T a)
    tree_map-same (Cosplit bs) a = cc (co_branches_map-same bs a)
    tree_map-same (Split k bs) a = cc (con_branches_map-same bs a)
    tree_map-same (RecordSplit k d T) a = cc (tree_map-same T a)
    tree_map-same (Absurd k) a = refl

    co_branches_map-same : (bs : CoBranches A) → AllCoBranches P bs → co_branches_map f bs ≡ co_branches_map h bs
    co_branches_map-same NoField a = refl
    co_branches_map-same (OnField k T bs) a = cc (tree_map-same T a.0, co_branches_map-same bs a.1)

    con_branches_map-same : (bs : ConBranches A) → AllConBranches P bs → con_branches_map f bs ≡ con_branches_map h bs
    con_branches_map-same NoCon a = refl
    con_branches_map-same (Refuted k bs) a = cc (con_branches_map-same bs a)
    con_branches_map-same (Goes k b T bs) a = cc (branch_map-same b a.0, tree_map-same T a.1, con_branches_map-same bs a.2)

  con_map-same : (c : ConDecl A) → AllCon P c → con_map f c ≡ con_map h c
  con_map-same c a = cc (telescope_map-same c.args a.args, map-same P f h same c.indices a.indices)

  fam_map-same : (d : FamDecl A) → AllFamily P d → fam_map f d ≡ fam_map h d
  fam_map-same d a =
      cc (telescope_map-same d.params a.params, telescope_map-same d.indices a.indices, map-same (AllCon P) (con_map f) (con_map h) con_map-same d.cons a.cons, telescope_map-same d.fields a.fields)

  decl_map-same : (d : Decl A) → AllDecl P d → decl_map f d ≡ decl_map h d
  decl_map-same (Postulate x t) a = cc (same t a)
  decl_map-same (Family d) a = cc (fam_map-same d a)
  decl_map-same (Open x t) a = cc (same t a)
  decl_map-same (Function x t qs T) a = cc (same t a.0, map-same (AllClause P) (clause_map f) (clause_map h) clause_map-same qs a.1, tree_map-same T a.2)

  pub signature_map-same : (g : Signature A) → AllByRecursion (AllDecl P) g → signature_map f g ≡ signature_map h g
  signature_map-same g a = map-same (AllDecl P) (decl_map f) (decl_map h) decl_map-same g a

module _ {A : Type 0} (P Q : A → Type 0) (weaker : (t : A) → P t → Q t) where
  all_weaker : {X : Type 0} (R S : X → Type 0) → ((x : X) → R x → S x) → (xs : List X) → AllByRecursion R xs → AllByRecursion S xs
  all_weaker R S w [] a = tt
  all_weaker R S w (x ∷ xs) a = (w x a.0, all_weaker R S w xs a.1)

  AllEntries-weaker : (es : Telescope A) → AllEntries P es → AllEntries Q es
  AllEntries-weaker es a = all_weaker (λ e. P e.ty) (λ e. Q e.ty) (λ e. weaker e.ty) es a

  mutual
    AllPat-weaker : (p : CorePat A) → AllPat P p → AllPat Q p
    AllPat-weaker (Pat p o b) a = AllShape-weaker p a

    AllShape-weaker : (p : PatShape A) → AllShape P p → AllShape Q p
    AllShape-weaker (VarPat i) a = tt
    AllShape-weaker (SolvedPat t) a = weaker t a
    AllShape-weaker (DottedPat t) a = weaker t a
    AllShape-weaker (ConPat k ps) a = AllPats-weaker ps a
    AllShape-weaker AbsurdPat a = tt
    AllShape-weaker (ProjectionPat k) a = tt

    AllPats-weaker : (ps : CorePats A) → AllPats P ps → AllPats Q ps
    AllPats-weaker NoPat a = tt
    AllPats-weaker (AndPat p ps) a = (AllPat-weaker p a.0, AllPats-weaker ps a.1)

  AllLeft-weaker : (l : CheckedLeft A) → AllLeft P l → AllLeft Q l
  AllLeft-weaker l a = record {
    context = AllEntries-weaker l.context a.context;
    pats = AllPats-weaker l.pats a.pats;
    ty = weaker l.ty a.ty;
    named = all_weaker (λ s. P s.value × P s.ty) (λ s. Q s.value × Q s.ty) (λ s b. (weaker s.value b.0, weaker s.ty b.1)) l.named a.named;
    dots = all_weaker (λ d. P d.value × P d.ty) (λ d. Q d.value × Q d.ty) (λ d b. (weaker d.value b.0, weaker d.ty b.1)) l.dots a.dots;
  }

  AllRight-weaker : (o : Option A) → AllRight P o → AllRight Q o
  AllRight-weaker None a = tt
  AllRight-weaker (Some t) a = weaker t a

  AllClause-weaker : (q : CoreClause A) → AllClause P q → AllClause Q q
  AllClause-weaker q a = record { left = AllLeft-weaker q.left a.left; right = AllRight-weaker q.right a.right }

  AllBranch-weaker : (b : Branch A) → AllBranch P b → AllBranch Q b
  AllBranch-weaker b a = record { context = AllEntries-weaker b.context a.context; values = all_weaker P Q weaker b.values a.values }

  mutual
    AllTree-weaker : (T : Tree A) → AllTree P T → AllTree Q T
    AllTree-weaker (Leaf t n) a = weaker t a
    AllTree-weaker (Intro T) a = AllTree-weaker T a
    AllTree-weaker (Cosplit bs) a = AllCoBranches-weaker bs a
    AllTree-weaker (Split k bs) a = AllConBranches-weaker bs a
    AllTree-weaker (RecordSplit k d T) a = AllTree-weaker T a
    AllTree-weaker (Absurd k) a = tt

    AllCoBranches-weaker : (bs : CoBranches A) → AllCoBranches P bs → AllCoBranches Q bs
    AllCoBranches-weaker NoField a = tt
    AllCoBranches-weaker (OnField k T bs) a = (AllTree-weaker T a.0, AllCoBranches-weaker bs a.1)

    AllConBranches-weaker : (bs : ConBranches A) → AllConBranches P bs → AllConBranches Q bs
    AllConBranches-weaker NoCon a = tt
    AllConBranches-weaker (Refuted k bs) a = AllConBranches-weaker bs a
    AllConBranches-weaker (Goes k b T bs) a = (AllBranch-weaker b a.0, AllTree-weaker T a.1, AllConBranches-weaker bs a.2)

  AllCon-weaker : (c : ConDecl A) → AllCon P c → AllCon Q c
  AllCon-weaker c a = record { args = AllEntries-weaker c.args a.args; indices = all_weaker P Q weaker c.indices a.indices }

  AllFamily-weaker : (d : FamDecl A) → AllFamily P d → AllFamily Q d
  AllFamily-weaker d a = record {
    params = AllEntries-weaker d.params a.params;
    indices = AllEntries-weaker d.indices a.indices;
    cons = all_weaker (AllCon P) (AllCon Q) AllCon-weaker d.cons a.cons;
    fields = AllEntries-weaker d.fields a.fields;
  }

  AllDecl-weaker : (d : Decl A) → AllDecl P d → AllDecl Q d
  AllDecl-weaker (Postulate x t) a = weaker t a
  AllDecl-weaker (Family d) a = AllFamily-weaker d a
  AllDecl-weaker (Open x t) a = weaker t a
  AllDecl-weaker (Function x t qs T) a = (weaker t a.0, all_weaker (AllClause P) (AllClause Q) AllClause-weaker qs a.1, AllTree-weaker T a.2)

  pub AllDecls-weaker : (g : Signature A) → AllByRecursion (AllDecl P) g → AllByRecursion (AllDecl Q) g
  AllDecls-weaker g a = all_weaker (AllDecl P) (AllDecl Q) AllDecl-weaker g a
