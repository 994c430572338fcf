-- Without solutions a signature stays as it is, and a yes implies conversion.
use Rattle.std.specs.Prelude.{◌≡◌, ℕ, ◌<◌, List, [], ◌∷◌, map, Option, Some, None, option_map, refl}
use Rattle.std.specs.List.{AllByRecursion}
use Rattle.std.proofs.Common.{ap, sym, ◌∙◌, subst as transport}
use Rattle.std.proofs.lemmas.List.{length-map}
use Rattle.core_rules.specs.Term.{Term}
use Rattle.core_rules.specs.Substitution.{replace}
use Rattle.core_rules.specs.Signature.{Telescope, CorePat, PatShape, CorePats, Pat, VarPat, SolvedPat, DottedPat, ConPat, AbsurdPat, ProjectionPat, NoPat, AndPat, CheckedLeft, CoreClause, Branch, Tree, CoBranches, ConBranches, Leaf, Intro, Cosplit, Split, RecordSplit, Absurd, NoField, OnField, NoCon, Refuted, Goes, ConDecl, Decl, Postulate, Family, Open, Function, FamDecl, fam_decl, Signature}
use Rattle.core_rules.specs.Mapped.{entry_map, con_map, fam_map, signature_map, AllEntries, AllPat, AllShape, AllPats, AllLeft, AllRight, AllClause, AllBranch, AllTree, AllCoBranches, AllConBranches, AllCon, AllDecl}
use Rattle.core_rules.specs.InScope.{IsDataShape, IsRecordShape, HasShape, FamiliesHaveShape}
use Rattle.core_rules.specs.Heads.{Solutions}
use Rattle.core_rules.specs.Conversion.{Conv}
use Rattle.core_rules.specs.Bounded.{Yes, ConvOf}
use Rattle.core_rules.specs.BoundedLaws.{no_solutions}
use Rattle.core_rules.proofs.Heads.OneAnswer.{one_some}
use Rattle.core_rules.proofs.Heads.Mapped.{fam_decl-map}
use Rattle.core_rules.proofs.Heads.Fit.{HasFitTrees}
use Rattle.core_rules.proofs.Heads.FullSolutions.{nothing_to_replace}
use Rattle.core_rules.proofs.Heads.Untouched.{signature_stays}
use Rattle.core_rules.proofs.Heads.YesConverts.{yes_converts}

each : {X : Type 0} (P : X → Type 0) → ((x : X) → P x) → (xs : List X) → AllByRecursion P xs
each P h [] = tt
each P h (x ∷ xs) = (h x, each P h xs)

module _ {A : Type 0} (P : A → Type 0) (h : (t : A) → P t) where
  all_entries : (es : Telescope A) → AllEntries P es
  all_entries es = each (λ e. P e.ty) (λ e. h e.ty) es

  mutual
    all_pat : (q : CorePat A) → AllPat P q
    all_pat (Pat q o b) = all_shape q

    all_shape : (q : PatShape A) → AllShape P q
    all_shape (VarPat i) = tt
    all_shape (SolvedPat t) = h t
    all_shape (DottedPat t) = h t
    all_shape (ConPat k qs) = all_pats qs
    all_shape AbsurdPat = tt
    all_shape (ProjectionPat k) = tt

    all_pats : (qs : CorePats A) → AllPats P qs
    all_pats NoPat = tt
    all_pats (AndPat q qs) = (all_pat q, all_pats qs)

  all_left : (l : CheckedLeft A) → AllLeft P l
  all_left l = record {
    context = all_entries l.context;
    pats = all_pats l.pats;
    ty = h l.ty;
    named = each (λ s. P s.value × P s.ty) (λ s. (h s.value, h s.ty)) l.named;
    dots = each (λ d. P d.value × P d.ty) (λ d. (h d.value, h d.ty)) l.dots;
  }

  all_right : (o : Option A) → AllRight P o
  all_right None = tt
  all_right (Some t) = h t

  all_clause : (q : CoreClause A) → AllClause P q
  all_clause q = record { left = all_left q.left; right = all_right q.right }

  all_branch : (b : Branch A) → AllBranch P b
  all_branch b = record { context = all_entries b.context; values = each P h b.values }

  mutual
    all_tree : (T : Tree A) → AllTree P T
    all_tree (Leaf t n) = h t
    all_tree (Intro T) = all_tree T
    all_tree (Cosplit bs) = all_co bs
    all_tree (Split k bs) = all_con bs
    all_tree (RecordSplit k d T) = all_tree T
    all_tree (Absurd k) = tt

    all_co : (bs : CoBranches A) → AllCoBranches P bs
    all_co NoField = tt
    all_co (OnField k T bs) = (all_tree T, all_co bs)

    all_con : (bs : ConBranches A) → AllConBranches P bs
    all_con NoCon = tt
    all_con (Refuted k bs) = all_con bs
    all_con (Goes k b T bs) = (all_branch b, all_tree T, all_con bs)

  all_constructor : (c : ConDecl A) → AllCon P c
  all_constructor c = record { args = all_entries c.args; indices = each P h c.indices }

  all_decl : (d : Decl A) → AllDecl P d
  all_decl (Postulate x a) = h a
  all_decl (Family d) = record { params = all_entries d.params; indices = all_entries d.indices; cons = each (AllCon P) all_constructor d.cons; fields = all_entries d.fields }
  all_decl (Open x a) = h a
  all_decl (Function x a qs T) = (h a, each (AllClause P) all_clause qs, all_tree T)

signature_same : (g : Signature Term) → signature_map (replace no_solutions) g ≡ g
signature_same g = signature_stays (replace no_solutions) (λ t. replace no_solutions t ≡ t) (λ t e. e) g (λ i d e. all_decl (λ t. replace no_solutions t ≡ t) nothing_to_replace.1 d)

pub yes_means : (g : Signature Term) (fuel depth : ℕ) → FamiliesHaveShape g → HasFitTrees g → (t u : Term) → ConvOf g no_solutions fuel depth t u Yes → Conv g t u
yes_means g fuel depth shapes trees t u h =
    transport (λ a. Conv g a u) (nothing_to_replace.1 t)
    (transport (λ b. Conv g (replace no_solutions t) b) (nothing_to_replace.1 u)
    (transport (λ g. Conv g (replace no_solutions t) (replace no_solutions u)) (signature_same g) (yes_converts g no_solutions no_solutions fuel depth t u nothing_to_replace.0 shapes trees h)))

-- families keep their shape when metavariables are replaced
module _ (f : Solutions) where
  data_image : (d : FamDecl Term) → IsDataShape d → IsDataShape (fam_map (replace f) d)
  data_image d s = record { fields = ap (map (entry_map (replace f))) s.fields; eta = s.eta; coinductive = s.coinductive }

  record_image : (d : FamDecl Term) → IsRecordShape d → IsRecordShape (fam_map (replace f) d)
  record_image d s = record {
    indices = ap (map (entry_map (replace f))) s.indices;
    con = con_map (replace f) s.con;
    cons = ap (map (con_map (replace f))) s.cons;
    args = ap (map (entry_map (replace f))) s.args;
    some_field = λ e. transport (λ n. 0 < n) (sym (length-map d.fields (entry_map (replace f)))) (s.some_field e);
    inductive = s.inductive;
  }

  shape_image : (d : FamDecl Term) → HasShape d → HasShape (fam_map (replace f) d)
  shape_image d s = record { of_data = λ e. data_image d (s.of_data e); of_record = λ e. record_image d (s.of_record e) }

  pub shapes_image : (g : Signature Term) → FamiliesHaveShape g → FamiliesHaveShape (signature_map (replace f) g)
  shapes_image g s d decl e = by_family (fam_decl g d) refl (sym (fam_decl-map (replace f) g d) ∙ e)
    where
      by_family : (o : Option (FamDecl Term)) → fam_decl g d ≡ o → option_map (fam_map (replace f)) o ≡ Some decl → HasShape decl
      by_family None h k = absurd cc
      by_family (Some c) h k = transport HasShape (one_some k) (shape_image c (s d c h))
