-- Without solutions terms, contexts and signatures stay as they are, and so does what unification answers.
use Rattle.std.specs.Prelude.{◌≡◌, ℕ, List, [], ◌∷◌, map, Option, Some, None, refl}
use Rattle.std.specs.List.{AllByRecursion}
use Rattle.std.proofs.Common.{ap, ap₂, ◌∙◌, subst as transport}
use Rattle.core_rules.specs.Term.{Term}
use Rattle.core_rules.specs.Substitution.{replace}
use Rattle.core_rules.specs.Signature.{Entry, Context, Telescope, CorePat, PatShape, CorePats, Pat, VarPat, SolvedPat, DottedPat, ConPat, AbsurdPat}
use Rattle.core_rules.specs.Signature.{ProjectionPat, NoPat, AndPat, CheckedLeft, CoreClause, Branch, Tree, CoBranches, ConBranches, Leaf, Intro, Cosplit}
use Rattle.core_rules.specs.Signature.{Split, RecordSplit, Absurd, NoField, OnField, NoCon, Refuted, Goes, ConDecl, Decl, Postulate, Family, Open, Function}
use Rattle.core_rules.specs.Signature.{Signature}
use Rattle.core_rules.specs.Mapped.{telescope_map, signature_map, AllEntries, AllPat, AllShape, AllPats, AllLeft, AllRight, AllClause, AllBranch, AllTree}
use Rattle.core_rules.specs.Mapped.{AllCoBranches, AllConBranches, AllCon, AllDecl}
use Rattle.core_rules.specs.BoundedLaws.{no_solutions}
use Rattle.core_rules.specs.Unification.{Equation, eq, begin}
use Rattle.core_rules.specs.UnifierAnswers.{Unified}
use Rattle.core_rules.proofs.Heads.FullSolutions.{nothing_to_replace}
use Rattle.core_rules.proofs.Heads.Untouched.{signature_stays}
use Rattle.unify_rules.specs.Unifier.{Unify, UnifyOf}
use Rattle.unify_rules.specs.Answered.{unified_of}
use Rattle.index_unify.specs.Unified.{ByOutcome}
use Rattle.tree_kernel.specs.Reading.{UnifiesAs}

each : {X : Type 0} (P : X → Type 0) → ((x : X) → P x) → (xs : List X) → AllByRecursion P xs
each P h [] = tt
each P h (x ∷ xs) = (h x, each P h xs)

module _ {A : Type 0} (P : A → Type 0) (h : (t : A) → P t) where
  all_entries : (es : Telescope A) → AllEntries P es
  all_entries es = each (λ e. P e.ty) (λ e. h e.ty) es

  mutual
    all_pat : (q : CorePat A) → AllPat P q
    all_pat (Pat q o b) = all_shape q

    all_shape : (q : PatShape A) → AllShape P q
    all_shape (VarPat i) = tt
    all_shape (SolvedPat t) = h t
    all_shape (DottedPat t) = h t
    all_shape (ConPat k qs) = all_pats qs
    all_shape AbsurdPat = tt
    all_shape (ProjectionPat k) = tt

    all_pats : (qs : CorePats A) → AllPats P qs
    all_pats NoPat = tt
    all_pats (AndPat q qs) = (all_pat q, all_pats qs)

  all_left : (l : CheckedLeft A) → AllLeft P l
  all_left l = record {
    context = all_entries l.context;
    pats = all_pats l.pats;
    ty = h l.ty;
    named = each (λ s. P s.value × P s.ty) (λ s. (h s.value, h s.ty)) l.named;
    dots = each (λ d. P d.value × P d.ty) (λ d. (h d.value, h d.ty)) l.dots;
  }

  all_right : (o : Option A) → AllRight P o
  all_right None = tt
  all_right (Some t) = h t

  all_clause : (q : CoreClause A) → AllClause P q
  all_clause q = record { left = all_left q.left; right = all_right q.right }

  all_branch : (b : Branch A) → AllBranch P b
  all_branch b = record { context = all_entries b.context; values = each P h b.values }

  mutual
    all_tree : (T : Tree A) → AllTree P T
    all_tree (Leaf t n) = h t
    all_tree (Intro T) = all_tree T
    all_tree (Cosplit bs) = all_co bs
    all_tree (Split k bs) = all_con bs
    all_tree (RecordSplit k d T) = all_tree T
    all_tree (Absurd k) = tt

    all_co : (bs : CoBranches A) → AllCoBranches P bs
    all_co NoField = tt
    all_co (OnField k T bs) = (all_tree T, all_co bs)

    all_con : (bs : ConBranches A) → AllConBranches P bs
    all_con NoCon = tt
    all_con (Refuted k bs) = all_con bs
    all_con (Goes k b T bs) = (all_branch b, all_tree T, all_con bs)

  all_constructor : (c : ConDecl A) → AllCon P c
  all_constructor c = record { args = all_entries c.args; indices = each P h c.indices }

  all_decl : (d : Decl A) → AllDecl P d
  all_decl (Postulate x a) = h a
  all_decl (Family d) = record {
    params = all_entries d.params;
    indices = all_entries d.indices;
    cons = each (AllCon P) all_constructor d.cons;
    fields =
        all_entries d.fields;
  }
  all_decl (Open x a) = h a
  all_decl (Function x a qs T) = (h a, each (AllClause P) all_clause qs, all_tree T)

pub signature_same : (g : Signature Term) → signature_map (replace no_solutions) g ≡ g
signature_same g = signature_stays (replace no_solutions) (λ t. replace no_solutions t ≡ t) (λ t e. e) g
    (λ i d e. all_decl (λ t. replace no_solutions t ≡ t) nothing_to_replace.1 d)

entry-same : (e : Entry Term) → ◌≡◌ {A = Entry Term} (record { name = e.name; flag = e.flag; ty = replace no_solutions e.ty }) e
entry-same e = ap (λ (t : Term). record { name = e.name; flag = e.flag; ty = t }) (nothing_to_replace.1 e.ty)

context-same : (c : Context Term) → telescope_map (replace no_solutions) c ≡ c
context-same [] = refl
context-same (e ∷ c) = ap₂ (λ (x : Entry Term) (d : Context Term). x ∷ d) (entry-same e) (context-same c)

equations-same : (es : List Equation) → map (λ e. eq (replace no_solutions e.left) (replace no_solutions e.right)) es ≡ es
equations-same [] = refl
equations-same (e ∷ es) = ap₂ (λ (x : Equation) (ds : List Equation). x ∷ ds) (ap₂ eq (nothing_to_replace.1 e.left) (nothing_to_replace.1 e.right))
    (equations-same es)

-- what unification answers where no solution is handed in
pub unifies-as : (g : Signature Term) (fuel depth : ℕ) (c : Context Term) (es : List Equation) (v : Unified)
    → ByOutcome (UnifyOf g no_solutions fuel depth c es) (telescope_map (replace no_solutions) c) v → UnifiesAs g fuel depth c es v
unifies-as g fuel depth c es v h =
    let o = h.0 in
    let n = h.1.0 in
    let a : Unify (signature_map (replace no_solutions) g) fuel depth (begin c (map (λ e. eq (replace no_solutions e.left) (replace no_solutions e.right)) es))
    o n =
    transport (λ (d : Context Term). Unify (signature_map (replace no_solutions) g) fuel depth
    (begin d (map (λ e. eq (replace no_solutions e.left) (replace no_solutions e.right)) es)) o n) (context-same c) h.1.1 in
    let b : Unify (signature_map (replace no_solutions) g) fuel depth (begin c es) o n =
    transport (λ (ds : List Equation). Unify (signature_map (replace no_solutions) g) fuel depth (begin c ds) o n) (equations-same es) a in (
      o,
      n,
      transport (λ (k : Signature Term). Unify k fuel depth (begin c es) o n) (signature_same g) b,
      h.2
          ∙ ap (λ (d : Context Term). unified_of d o) (context-same c),
    )
