-- The codes of declarations and signatures, over terms that are binary trees of numbers, by which a signature can be the value of a model.
use Rattle.std.specs.Prelude.{◌≡◌, ℕ, ◌⊎◌, Bool, true, false, List, [], ◌∷◌, Option, refl, zero, suc}
use Rattle.std.specs.Coded.{Coded, code_by, coded_ℕ, coded_bool, coded_list, coded_option, coded×, coded⊎}
use mathlib.Core.Logic.{inl, inr}
use base.Stored.{Gv, gnil, gnum, gcons, num}
use denote.Struct.Codes.{itself}
use Rattle.core_rules.specs.Stored.{flag_to, flag_from, flag_back}
use Rattle.core_rules.specs.Signature.{Entry, Origin, Written, Variable, Underscore, Inserted, Braces, Without, Plain, Named, CorePat, PatShape, CorePats, Pat, VarPat, SolvedPat, DottedPat, ConPat, AbsurdPat, ProjectionPat, NoPat, AndPat, Solved, Dot, CheckedLeft, CoreClause, Branch, Tree, CoBranches, ConBranches, Leaf, Intro, Cosplit, Split, RecordSplit, Absurd, NoField, OnField, NoCon, Refuted, Goes, ConDecl, FamDecl, Decl, Postulate, Family, Open, Function, Signature}

abbrev list_to : {X : Type 0} → (X → Gv) → List X → Gv
list_to to [] = gnil
list_to to (x ∷ xs) = gcons (to x) (list_to to xs)

abbrev list_from : {X : Type 0} → (Gv → X) → Gv → List X
list_from from (gcons g h) = from g ∷ list_from from h
list_from from _ = []

pub list_back : {X : Type 0} (to : X → Gv) (from : Gv → X) → ((x : X) → from (to x) ≡ x) → (xs : List X) → list_from from (list_to to xs) ≡ xs
list_back to from back [] = refl
list_back to from back (x ∷ xs) = cc (back x, list_back to from back xs)

abbrev bool_to : Bool → Gv
bool_to true = gnum 0
bool_to false = gnil

abbrev bool_from : Gv → Bool
bool_from (gnum _) = true
bool_from _ = false

pub bool_back : (b : Bool) → bool_from (bool_to b) ≡ b
bool_back true = refl
bool_back false = refl

abbrev origin_to : Origin → Gv
origin_to Written = gnil
origin_to (Variable x fresh) = gcons (gnum x) (bool_to fresh)
origin_to Underscore = gnum 0
origin_to Inserted = gnum 1

abbrev origin_from : Gv → Origin
origin_from gnil = Written
origin_from (gcons (gnum x) g) = Variable x (bool_from g)
origin_from (gnum zero) = Underscore
origin_from _ = Inserted

pub origin_back : (o : Origin) → origin_from (origin_to o) ≡ o
origin_back Written = refl
origin_back (Variable x fresh) = cc (bool_back fresh)
origin_back Underscore = refl
origin_back Inserted = refl

abbrev braces_to : Braces → Gv
braces_to Without = gnil
braces_to Plain = gcons gnil gnil
braces_to (Named x) = gnum x

abbrev braces_from : Gv → Braces
braces_from gnil = Without
braces_from (gnum x) = Named x
braces_from _ = Plain

pub braces_back : (b : Braces) → braces_from (braces_to b) ≡ b
braces_back Without = refl
braces_back Plain = refl
braces_back (Named x) = refl

-- terms of type A are coded by `to`, which `from` undoes
module _ {A : Type 0} (to : A → Gv) (from : Gv → A) (back : (t : A) → from (to t) ≡ t) where
  abbrev entry_to : Entry A → Gv
  entry_to e = gcons (gcons (gnum e.name) (flag_to e.flag)) (to e.ty)

  abbrev entry_from : Gv → Entry A
  entry_from (gcons (gcons (gnum x) b) t) = record { name = x; flag = flag_from b; ty = from t }
  entry_from _ = record { name = 0; flag = flag_from gnil; ty = from gnil }

  pub entry_back : (e : Entry A) → entry_from (entry_to e) ≡ e
  entry_back e = λ i. record { name = e.name; flag = flag_back e.flag i; ty = back e.ty i }

  abbrev mutual
    pat_to : CorePat A → Gv
    pat_to (Pat p o b) = gcons (shape_to p) (gcons (origin_to o) (braces_to b))

    shape_to : PatShape A → Gv
    shape_to (VarPat i) = gcons gnil (gnum i)
    shape_to (ProjectionPat f) = gcons (gnum 0) (gnum f)
    shape_to (SolvedPat t) = gcons (gnum 1) (to t)
    shape_to (DottedPat t) = gcons (gnum 2) (to t)
    shape_to (ConPat k ps) = gcons (gcons (gnum k) gnil) (pats_to ps)
    shape_to AbsurdPat = gnil

    pats_to : CorePats A → Gv
    pats_to NoPat = gnil
    pats_to (AndPat p ps) = gcons (pat_to p) (pats_to ps)

  abbrev mutual
    pat_from : Gv → CorePat A
    pat_from (gcons p (gcons o b)) = Pat (shape_from p) (origin_from o) (braces_from b)
    pat_from _ = Pat AbsurdPat Written Without

    shape_from : Gv → PatShape A
    shape_from (gcons gnil (gnum i)) = VarPat i
    shape_from (gcons (gnum zero) (gnum f)) = ProjectionPat f
    shape_from (gcons (gnum (suc zero)) t) = SolvedPat (from t)
    shape_from (gcons (gnum (suc (suc _))) t) = DottedPat (from t)
    shape_from (gcons (gcons (gnum k) _) g) = ConPat k (pats_from g)
    shape_from _ = AbsurdPat

    pats_from : Gv → CorePats A
    pats_from (gcons p g) = AndPat (pat_from p) (pats_from g)
    pats_from _ = NoPat

  mutual
    pub pat_back : (p : CorePat A) → pat_from (pat_to p) ≡ p
    pat_back (Pat p o b) = cc (shape_back p, origin_back o, braces_back b)

    pub shape_back : (p : PatShape A) → shape_from (shape_to p) ≡ p
    shape_back (VarPat i) = refl
    shape_back (ProjectionPat f) = refl
    shape_back (SolvedPat t) = cc (back t)
    shape_back (DottedPat t) = cc (back t)
    shape_back (ConPat k ps) = cc (pats_back ps)
    shape_back AbsurdPat = refl

    pub pats_back : (ps : CorePats A) → pats_from (pats_to ps) ≡ ps
    pats_back NoPat = refl
    pats_back (AndPat p ps) = cc (pat_back p, pats_back ps)

  abbrev branch_to : Branch A → Gv
  branch_to b = gcons (list_to entry_to b.context) (gcons (list_to to b.values) (list_to gnum b.keep))

  abbrev branch_from : Gv → Branch A
  branch_from (gcons g (gcons h k)) = record { context = list_from entry_from g; values = list_from from h; keep = list_from num k }
  branch_from _ = record { context = []; values = []; keep = [] }

  pub branch_back : (b : Branch A) → branch_from (branch_to b) ≡ b
  branch_back b = λ i. record { context = list_back entry_to entry_from entry_back b.context i; values = list_back to from back b.values i; keep = list_back gnum num (λ n. refl) b.keep i }

  abbrev mutual
    tree_to : Tree A → Gv
    tree_to (Leaf t n) = gcons gnil (gcons (gnum n) (to t))
    tree_to (Intro T) = gcons (gnum 0) (tree_to T)
    tree_to (Cosplit bs) = gcons (gnum 1) (co_to bs)
    tree_to (Split k bs) = gcons (gnum 2) (gcons (gnum k) (con_to bs))
    tree_to (RecordSplit k d T) = gcons (gnum 3) (gcons (gnum k) (gcons (gnum d) (tree_to T)))
    tree_to (Absurd k) = gnum k

    co_to : CoBranches A → Gv
    co_to NoField = gnil
    co_to (OnField f T bs) = gcons (gnum f) (gcons (tree_to T) (co_to bs))

    con_to : ConBranches A → Gv
    con_to NoCon = gnil
    con_to (Refuted k bs) = gcons (gnum k) (con_to bs)
    con_to (Goes k b T bs) = gcons (gcons (gnum k) (branch_to b)) (gcons (tree_to T) (con_to bs))

  abbrev mutual
    tree_from : Gv → Tree A
    tree_from (gcons gnil (gcons (gnum n) t)) = Leaf (from t) n
    tree_from (gcons (gnum zero) g) = Intro (tree_from g)
    tree_from (gcons (gnum (suc zero)) g) = Cosplit (co_from g)
    tree_from (gcons (gnum (suc (suc zero))) (gcons (gnum k) g)) = Split k (con_from g)
    tree_from (gcons (gnum (suc (suc (suc _)))) (gcons (gnum k) (gcons (gnum d) g))) = RecordSplit k d (tree_from g)
    tree_from (gnum k) = Absurd k
    tree_from _ = Absurd 0

    co_from : Gv → CoBranches A
    co_from (gcons (gnum f) (gcons g h)) = OnField f (tree_from g) (co_from h)
    co_from _ = NoField

    con_from : Gv → ConBranches A
    con_from (gcons (gnum k) g) = Refuted k (con_from g)
    con_from (gcons (gcons (gnum k) b) (gcons g h)) = Goes k (branch_from b) (tree_from g) (con_from h)
    con_from _ = NoCon

  mutual
    pub tree_back : (T : Tree A) → tree_from (tree_to T) ≡ T
    tree_back (Leaf t n) = cc (back t)
    tree_back (Intro T) = cc (tree_back T)
    tree_back (Cosplit bs) = cc (co_back bs)
    tree_back (Split k bs) = cc (con_back bs)
    tree_back (RecordSplit k d T) = cc (tree_back T)
    tree_back (Absurd k) = refl

    pub co_back : (bs : CoBranches A) → co_from (co_to bs) ≡ bs
    co_back NoField = refl
    co_back (OnField f T bs) = cc (tree_back T, co_back bs)

    pub con_back : (bs : ConBranches A) → con_from (con_to bs) ≡ bs
    con_back NoCon = refl
    con_back (Refuted k bs) = cc (con_back bs)
    con_back (Goes k b T bs) = λ i. Goes k (branch_back b i) (tree_back T i) (con_back bs i)

  abbrev terms : Coded A
  terms = code_by Gv itself to from back

  abbrev pub coded_entry : Coded (Entry A)
  coded_entry = code_by Gv itself entry_to entry_from entry_back

  abbrev pub coded_pats : Coded (CorePats A)
  coded_pats = code_by Gv itself pats_to pats_from pats_back

  abbrev pub coded_tree : Coded (Tree A)
  coded_tree = code_by Gv itself tree_to tree_from tree_back

  abbrev pub coded_solved : Coded (Solved A)
  coded_solved = code_by (ℕ × (A × A)) (coded× coded_ℕ (coded× terms terms))
      (λ s. (s.name, (s.value, s.ty))) (λ p. record { name = p.0; value = p.1.0; ty = p.1.1 }) (λ s. refl)

  abbrev pub coded_dot : Coded (Dot A)
  coded_dot = code_by (ℕ × (A × A)) (coded× coded_ℕ (coded× terms terms))
      (λ d. (d.at, (d.value, d.ty))) (λ p. record { at = p.0; value = p.1.0; ty = p.1.1 }) (λ d. refl)

  abbrev pub coded_left : Coded (CheckedLeft A)
  coded_left = code_by ((List (Entry A) × CorePats A) × ((A × ℕ) × (List (Solved A) × List (Dot A))))
      (coded× (coded× (coded_list coded_entry) coded_pats) (coded× (coded× terms coded_ℕ) (coded× (coded_list coded_solved) (coded_list coded_dot))))
      (λ l. ((l.context, l.pats), ((l.ty, l.inserted), (l.named, l.dots))))
      (λ p. record { context = p.0.0; pats = p.0.1; ty = p.1.0.0; inserted = p.1.0.1; named = p.1.1.0; dots = p.1.1.1 }) (λ l. refl)

  abbrev pub coded_clause : Coded (CoreClause A)
  coded_clause = code_by (CheckedLeft A × Option A) (coded× coded_left (coded_option terms))
      (λ q. (q.left, q.right)) (λ p. record { left = p.0; right = p.1 }) (λ q. refl)

  abbrev pub coded_con : Coded (ConDecl A)
  coded_con = code_by (Option ℕ × (List (Entry A) × List A)) (coded× (coded_option coded_ℕ) (coded× (coded_list coded_entry) (coded_list terms)))
      (λ c. (c.name, (c.args, c.indices))) (λ p. record { name = p.0; args = p.1.0; indices = p.1.1 }) (λ c. refl)

  abbrev pub coded_family : Coded (FamDecl A)
  coded_family = code_by ((ℕ × (List (Entry A) × List (Entry A))) × ((ℕ × (List (ConDecl A) × List (Entry A))) × (Bool × (Bool × Bool))))
      (coded× (coded× coded_ℕ (coded× (coded_list coded_entry) (coded_list coded_entry))) (coded× (coded× coded_ℕ (coded× (coded_list coded_con) (coded_list coded_entry))) (coded× coded_bool (coded× coded_bool coded_bool))))
      (λ d. ((d.name, (d.params, d.indices)), ((d.level, (d.cons, d.fields)), (d.is_record, (d.eta, d.coinductive)))))
      (λ p. record { name = p.0.0; params = p.0.1.0; indices = p.0.1.1; level = p.1.0.0; cons = p.1.0.1.0; fields = p.1.0.1.1; is_record = p.1.1.0; eta = p.1.1.1.0; coinductive = p.1.1.1.1 }) (λ d. refl)

  abbrev Stored : Type 0
  Stored = ((ℕ × A) ⊎ (ℕ × A)) ⊎ (FamDecl A ⊎ ((ℕ × A) × (List (CoreClause A) × Tree A)))

  abbrev decl_to : Decl A → Stored
  decl_to (Postulate x a) = inl (inl (x, a))
  decl_to (Open x a) = inl (inr (x, a))
  decl_to (Family d) = inr (inl d)
  decl_to (Function x a qs T) = inr (inr ((x, a), (qs, T)))

  abbrev decl_from : Stored → Decl A
  decl_from (inl (inl p)) = Postulate p.0 p.1
  decl_from (inl (inr p)) = Open p.0 p.1
  decl_from (inr (inl d)) = Family d
  decl_from (inr (inr p)) = Function p.0.0 p.0.1 p.1.0 p.1.1

  pub decl_back : (d : Decl A) → decl_from (decl_to d) ≡ d
  decl_back (Postulate x a) = refl
  decl_back (Open x a) = refl
  decl_back (Family d) = refl
  decl_back (Function x a qs T) = refl

  abbrev pub coded_decl : Coded (Decl A)
  coded_decl = code_by Stored (coded⊎ (coded⊎ (coded× coded_ℕ terms) (coded× coded_ℕ terms)) (coded⊎ coded_family (coded× (coded× coded_ℕ terms) (coded× (coded_list coded_clause) coded_tree))))
      decl_to decl_from decl_back

  abbrev pub coded_signature : Coded (Signature A)
  coded_signature = coded_list coded_decl

-- at ids
abbrev pub coded_entry_ids : Coded (Entry ℕ)
coded_entry_ids = coded_entry gnum num (λ n. refl)

abbrev pub coded_clause_ids : Coded (CoreClause ℕ)
coded_clause_ids = coded_clause gnum num (λ n. refl)

abbrev pub coded_tree_ids : Coded (Tree ℕ)
coded_tree_ids = coded_tree gnum num (λ n. refl)

abbrev pub coded_decl_ids : Coded (Decl ℕ)
coded_decl_ids = coded_decl gnum num (λ n. refl)

abbrev pub coded_signature_ids : Coded (Signature ℕ)
coded_signature_ids = coded_signature gnum num (λ n. refl)
