-- A function that leaves each term of a declaration as it is leaves the declaration as it is.
use Rattle.std.specs.Prelude.{◌≡◌, ℕ, List, [], ◌∷◌, map, slice_get, refl, Option, Some, None, option_map, suc}
use Rattle.std.specs.List.{AllByRecursion}
use Rattle.std.proofs.Common.{ap, ap₂, ◌∙◌}
use Rattle.core_rules.specs.Term.{Term, HasNoMeta}
use Rattle.core_rules.specs.Substitution.{replace}
use Rattle.core_rules.specs.Signature.{Entry, Telescope, CorePat, PatShape, CorePats, Pat, VarPat, SolvedPat, DottedPat, ConPat, AbsurdPat, ProjectionPat, NoPat, AndPat, Solved, Dot, CheckedLeft, CoreClause, Branch, Tree, CoBranches, ConBranches, Leaf, Intro, Cosplit, Split, RecordSplit, Absurd, NoField, OnField, NoCon, Refuted, Goes, ConDecl, FamDecl, Decl, Postulate, Family, Open, Function, Signature}
use Rattle.core_rules.specs.Mapped.{entry_map, telescope_map, pat_map, shape_map, pats_map, solved_map, dot_map, left_map, clause_map, branch_map, tree_map, co_branches_map, con_branches_map, con_map, fam_map, decl_map, signature_map, AllEntries, AllPat, AllShape, AllPats, AllLeft, AllRight, AllClause, AllBranch, AllTree, AllCoBranches, AllConBranches, AllCon, AllFamily, AllDecl}
use Rattle.core_rules.specs.Heads.{Solutions}
use Rattle.core_rules.proofs.Heads.FullSolutions.{replace_none}

map_stays : {X : Type 0} (m : X → X) (Q : X → Type 0) → ((x : X) → Q x → m x ≡ x) → (xs : List X) → AllByRecursion Q xs → map m xs ≡ xs
map_stays m Q h [] p = refl
map_stays m Q h (x ∷ xs) p = ap₂ (λ y ys. y ∷ ys) (h x p.0) (map_stays m Q h xs p.1)

module _ {A : Type 0} (f : A → A) (P : A → Type 0) (h : (t : A) → P t → f t ≡ t) where
  entry_stays : (e : Entry A) → P e.ty → entry_map f e ≡ e
  entry_stays e p = ap (λ t. record { name = e.name; flag = e.flag; ty = t }) (h e.ty p)

  telescope_stays : (es : Telescope A) → AllEntries P es → telescope_map f es ≡ es
  telescope_stays es p = map_stays (entry_map f) (λ e. P e.ty) entry_stays es p

  mutual
    pat_stays : (q : CorePat A) → AllPat P q → pat_map f q ≡ q
    pat_stays (Pat q o b) p = ap (λ q. Pat q o b) (shape_stays q p)

    shape_stays : (q : PatShape A) → AllShape P q → shape_map f q ≡ q
    shape_stays (VarPat i) p = refl
    shape_stays (SolvedPat t) p = ap SolvedPat (h t p)
    shape_stays (DottedPat t) p = ap DottedPat (h t p)
    shape_stays (ConPat k qs) p = ap (ConPat k) (pats_stay qs p)
    shape_stays AbsurdPat p = refl
    shape_stays (ProjectionPat k) p = refl

    pats_stay : (qs : CorePats A) → AllPats P qs → pats_map f qs ≡ qs
    pats_stay NoPat p = refl
    pats_stay (AndPat q qs) p = ap₂ AndPat (pat_stays q p.0) (pats_stay qs p.1)

  solved_stays : (s : Solved A) → P s.value × P s.ty → solved_map f s ≡ s
  solved_stays s p = ap₂ (λ t a. record { name = s.name; value = t; ty = a }) (h s.value p.0) (h s.ty p.1)

  dot_stays : (d : Dot A) → P d.value × P d.ty → dot_map f d ≡ d
  dot_stays d p = ap₂ (λ t a. record { at = d.at; value = t; ty = a }) (h d.value p.0) (h d.ty p.1)

  left_stays : (l : CheckedLeft A) → AllLeft P l → left_map f l ≡ l
  left_stays l p =
      let a = telescope_stays l.context p.context in
      let b = pats_stay l.pats p.pats in
      let c = h l.ty p.ty in
      let d = map_stays (solved_map f) (λ s. P s.value × P s.ty) solved_stays l.named p.named in
      let e = map_stays (dot_map f) (λ d. P d.value × P d.ty) dot_stays l.dots p.dots in
      λ i. record { context = a i; pats = b i; ty = c i; named = d i; dots = e i; inserted = l.inserted }

  right_stays : (o : Option A) → AllRight P o → option_map f o ≡ o
  right_stays None p = refl
  right_stays (Some t) p = ap Some (h t p)

  clause_stays : (q : CoreClause A) → AllClause P q → clause_map f q ≡ q
  clause_stays q p = ap₂ (λ l r. record { left = l; right = r }) (left_stays q.left p.left) (right_stays q.right p.right)

  branch_stays : (b : Branch A) → AllBranch P b → branch_map f b ≡ b
  branch_stays b p = ap₂ (λ c vs. record { context = c; values = vs; keep = b.keep }) (telescope_stays b.context p.context) (map_stays f P h b.values p.values)

  mutual
    tree_stays : (T : Tree A) → AllTree P T → tree_map f T ≡ T
    tree_stays (Leaf t n) p = ap (λ t. Leaf t n) (h t p)
    tree_stays (Intro T) p = ap Intro (tree_stays T p)
    tree_stays (Cosplit bs) p = ap Cosplit (co_branches_stay bs p)
    tree_stays (Split k bs) p = ap (Split k) (con_branches_stay bs p)
    tree_stays (RecordSplit k d T) p = ap (RecordSplit k d) (tree_stays T p)
    tree_stays (Absurd k) p = refl

    co_branches_stay : (bs : CoBranches A) → AllCoBranches P bs → co_branches_map f bs ≡ bs
    co_branches_stay NoField p = refl
    co_branches_stay (OnField k T bs) p = ap₂ (OnField k) (tree_stays T p.0) (co_branches_stay bs p.1)

    con_branches_stay : (bs : ConBranches A) → AllConBranches P bs → con_branches_map f bs ≡ bs
    con_branches_stay NoCon p = refl
    con_branches_stay (Refuted k bs) p = ap (Refuted k) (con_branches_stay bs p)
    con_branches_stay (Goes k b T bs) p =
        ap₂ (λ b T. Goes k b T (con_branches_map f bs)) (branch_stays b p.0) (tree_stays T p.1) ∙ ap (Goes k b T) (con_branches_stay bs p.2)

  con_stays : (c : ConDecl A) → AllCon P c → con_map f c ≡ c
  con_stays c p = ap₂ (λ es is. record { name = c.name; args = es; indices = is }) (telescope_stays c.args p.args) (map_stays f P h c.indices p.indices)

  fam_stays : (d : FamDecl A) → AllFamily P d → fam_map f d ≡ d
  fam_stays d p =
      let a = telescope_stays d.params p.params in
      let b = telescope_stays d.indices p.indices in
      let c = map_stays (con_map f) (AllCon P) con_stays d.cons p.cons in
      let e = telescope_stays d.fields p.fields in
      λ i. record { name = d.name; params = a i; indices = b i; level = d.level; is_record = d.is_record; cons = c i; fields = e i; eta = d.eta; coinductive = d.coinductive }

  decl_stays : (d : Decl A) → AllDecl P d → decl_map f d ≡ d
  decl_stays (Postulate x a) p = ap (Postulate x) (h a p)
  decl_stays (Family d) p = ap Family (fam_stays d p)
  decl_stays (Open x a) p = ap (Open x) (h a p)
  decl_stays (Function x a qs T) p =
      ap₂ (λ a qs. Function x a qs (tree_map f T)) (h a p.0) (map_stays (clause_map f) (AllClause P) clause_stays qs p.1) ∙ ap (Function x a qs) (tree_stays T p.2)

  pub signature_stays : (g : Signature A) → ((i : ℕ) (d : Decl A) → slice_get g i ≡ Some d → AllDecl P d) → signature_map f g ≡ g
  signature_stays [] p = refl
  signature_stays (d ∷ g) p = ap₂ (λ d g. d ∷ g) (decl_stays d (p 0 d refl)) (signature_stays g (λ i d e. p (suc i) d e))

pub signature_untouched : (s : Solutions) (g : Signature Term) → ((i : ℕ) (d : Decl Term) → slice_get g i ≡ Some d → AllDecl HasNoMeta d) → signature_map (replace s) g ≡ g
signature_untouched s g p = signature_stays (replace s) HasNoMeta (replace_none s) g p
