-- The signature that is made of declarations is derivable.
use Rattle.std.proofs.Common.{◌≡◌, ℕ, List, [], ◌∷◌, ◌++◌, Ok, Err, refl, sym, ap, append_assoc}
use Rattle.std.specs.Prelude.{Result}
use Rattle.std.proofs.lemmas.List.{append-nil}
use Rattle.std.proofs.Common.{subst as along}
use Rattle.core_rules.specs.Term.{Term, Sort}
use Rattle.core_rules.specs.Signature.{FamDecl, Signature, Postulate, Family}
use Rattle.core_rules.specs.Typing.{Typing}
use Rattle.core_rules.specs.InScope.{FamilyInScope, HasShape, InScope, any_meta}
use Rattle.core_rules.specs.Derivable.{Good, Derivable}
use Rattle.core_rules.proofs.Signature.Growth.{derivable-extended}
use Rattle.core_rules.proofs.Signature.Grown.{typing-grown}
use Rattle.core_rules.proofs.Derivations.{derivable-empty}
use Rattle.core_rules.proofs.Trees.Scoped.{derivable-in_scope}
use Rattle.core_rules.proofs.Trees.Sound.{derivable-sound}
use Rattle.core_rules.proofs.Typing.Closed.{have-shape}
use Rattle.core_rules.proofs.Typing.NoMeta.{typed-no_meta, family-no_meta}
use Rattle.kernel_rules.specs.Outcome.{Gives}
use Rattle.kernel_rules.specs.TermReading.{InferOf, IsTypeOf}
use Rattle.kernel_rules.specs.FamilyReading.{FamilyOf}
use Rattle.kernel_rules.proofs.Sound.{infer_typed, by-type}
use Rattle.kernel_rules.proofs.Families.{family-good}
use Rattle.written_rules.specs.Expressions.{WrittenTypeOf}
use Rattle.written_rules.proofs.ScopedForms.{expr_good}
use Rattle.data_rules.specs.Families.{WrittenFamilyOf}
use Rattle.data_rules.proofs.Scoped.{family-accepted}
use Rattle.el_outside.specs.declared.place.Pos.{Pos}
use Rattle.resolved_tree.specs.declared.resolved.ResolvedExpr.{ResolvedExpr}
use Rattle.resolved_tree.specs.declared.resolved.ResolvedName.{ResolvedName}
use Rattle.resolved_tree.specs.declared.resolved.ResolvedSignature.{ResolvedSignature}
use Rattle.resolved_tree.specs.declared.resolved.Resolved.{Resolved}
use Rattle.resolved_tree.specs.declared.resolved.Resolved.TheVariants as r
use Rattle.scope_table.specs.Known.{Known}
use Rattle.session_text.specs.declared.error.LoadError.{LoadError}
use Rattle.source_tree.specs.declared.decl.Decl.{Decl}
use Rattle.source_tree.specs.declared.decl.File.{File}
use Rattle.file_load.specs.Kinds.{elab_kind, kernel_kind, family_kind, decl_kind}
use Rattle.file_load.specs.Passes.{error_at}
use Rattle.file_load.specs.Sizes.{terms_of}
use Rattle.file_load.specs.Lines.{Declared, Judgement, LineOf, LinesOf, FamilyDeclOf, FamilyPasses, TypePasses, DeclOf, added, postulates}
use Rattle.file_load.specs.Load.{Declares, DeclaresFile, Outcome}
use Rattle.file_load.proofs.Passing.{was_passed}

-- ---- judgements

abbrev judged_to : Signature Term → Judgement
judged_to g = Ok g

same_signature : (g h : Signature Term) → judged_to g ≡ judged_to h → g ≡ h
same_signature g h e = cc

-- where what passed can be declared
declared_derivable : {A : Type 0} (P : Result A LoadError → Type 0) (g : Signature Term) (f : A → Signature Term) → ((a : A) → P (Ok a) → Derivable (g ++ f a)) → (h : Signature Term) → Declared P g f (Ok h) → Derivable h
declared_derivable {A} P g f each h x = by x.passed x.passes x.is
  where
    by : (o : Result A LoadError) → P o → judged_to h ≡ added g f o → Derivable h
    by (Ok a) p e = along Derivable (sym (same_signature h (g ++ f a) e)) (each a p)
    by (Err e) p is = absurd cc

-- ---- postulates of one type

-- over a derivable signature and one postulate more
one_more : (g : Signature Term) (x n : ℕ) (t : Term) → Derivable g → Typing g [] t (Sort n) → Derivable (g ++ Postulate x t ∷ [])
one_more g x n t d k = derivable-extended g (Postulate x t) d (Good.postulate (record { level = n; holds = k })) (typed-no_meta g k)

typed_later : (g : Signature Term) (x n : ℕ) (t : Term) → Derivable g → Typing g [] t (Sort n) → Typing (g ++ Postulate x t ∷ []) [] t (Sort n)
typed_later g x n t d k =
    let h = derivable-in_scope (g ++ Postulate x t ∷ []) (one_more g x n t d k) in
    typing-grown g (Postulate x t ∷ []) (derivable-in_scope g d) (have-shape (g ++ Postulate x t ∷ []) h) k

typed_derivable : (g : Signature Term) (xs : List ResolvedName) (t : Term) (n : ℕ) → Derivable g → Typing g [] t (Sort n) → Derivable (g ++ postulates xs t)
typed_derivable g [] t n d k = along Derivable (sym (append-nil g)) d
typed_derivable g (x ∷ xs) t n d k =
    along Derivable (append_assoc g (Postulate x.id t ∷ []) (postulates xs t))
    (typed_derivable (g ++ Postulate x.id t ∷ []) xs t n (one_more g x.id n t d k) (typed_later g x.id n t d k))

-- ---- lines and declarations

module _ (fuel depth : ℕ) where
  -- what the written rules accept over a derivable signature is in scope
  pub type_in_scope : (g : Signature Term) (e : ResolvedExpr) (q : Term × ℕ) → Derivable g → WrittenTypeOf g fuel depth [] e (Gives q) → InScope g any_meta 0 q.0
  type_in_scope g e q d w = (expr_good g (derivable-in_scope g d) fuel depth e).1 0 [] q tt w

  pub family_in_scope : (g : Signature Term) (x : Resolved) (d : FamDecl Term) → Derivable g → WrittenFamilyOf g fuel depth x (Gives d) → FamilyInScope g any_meta d
  family_in_scope g x d s w = family-accepted g (derivable-in_scope g s) fuel depth x d w

  checked_derivable : (g : Signature Term) (xs : List ResolvedName) (t : Term) (n : ℕ) → Derivable g → IsTypeOf g fuel depth [] t (Gives n) → Derivable (g ++ postulates xs t)
  checked_derivable g xs t n d k =
      let sound = derivable-sound g d in
      typed_derivable g xs t n d (by-type g fuel depth sound [] t (InferOf g fuel depth [] t) (infer_typed g fuel depth sound [] t) n k)

  pub line_derivable : (g : Signature Term) (s : ResolvedSignature) → Derivable g → (h : Signature Term) → LineOf fuel depth g s (Ok h) → Derivable h
  line_derivable g s d h l = declared_derivable (TypePasses fuel depth g s) g (λ q. postulates s.names q.0) each h l
    where
      each : (q : Term × ℕ) → TypePasses fuel depth g s (Ok q) → Derivable (g ++ postulates s.names q.0)
      each q p =
          let was = was_passed (WrittenTypeOf g fuel depth [] s.ty) (λ e. error_at e.pos (elab_kind e.kind)) (λ q. q.0 ∷ []) (λ q. IsTypeOf g fuel depth [] q.0) kernel_kind s.place.pos p in
          checked_derivable g s.names q.0 was.1.0 d was.1.1

  family_declared : (g : Signature Term) (d : FamDecl Term) → Derivable g → HasShape d → (o : Unit {0}) → FamilyOf g fuel depth d (Gives o) → Derivable (g ++ Family d ∷ [])
  family_declared g d s shape o k = let good = family-good g fuel depth d s shape k in derivable-extended g (Family d) s (Good.family good) (family-no_meta g d good)

  pub family_derivable : (g : Signature Term) (p : Pos) (x : Resolved) → Derivable g → (h : Signature Term) → FamilyDeclOf fuel depth g p x (Ok h) → Derivable h
  family_derivable g p x s h l = declared_derivable (FamilyPasses fuel depth g p x) g (λ d. Family d ∷ []) each h l
    where
      each : (d : FamDecl Term) → FamilyPasses fuel depth g p x (Ok d) → Derivable (g ++ Family d ∷ [])
      each d q =
          let was = was_passed (WrittenFamilyOf g fuel depth x) (λ e. error_at e.pos (family_kind e.kind)) terms_of (FamilyOf g fuel depth) decl_kind p q in
          family_declared g d s (family_in_scope g x d s was.0).shape was.1.0 was.1.1

  lines_derivable : {g : Signature Term} {ss : List ResolvedSignature} {j : Judgement} → LinesOf fuel depth g ss j → Derivable g → (h : Signature Term) → j ≡ Ok h → Derivable h
  lines_derivable (LinesOf.none {g = g}) d h e = along Derivable (same_signature g h e) d
  lines_derivable (LinesOf.stopped l) d h e = absurd cc
  lines_derivable (LinesOf.further {g = g} {h = f} {s = s} l m) d h e = lines_derivable m (line_derivable g s d f l) h e

  pub decl_derivable : (g h : Signature Term) (x : Resolved) → Derivable g → DeclOf fuel depth g x (Ok h) → Derivable h
  decl_derivable g h (r.Postulate p ss) d j = lines_derivable j d h refl
  decl_derivable g h (r.Function p s cs) d j = absurd cc
  decl_derivable g h (r.Open p x b) d j = along Derivable (sym (same_signature h g j)) d
  decl_derivable g h (r.«Data» p x bs a ss) d j = family_derivable g x.place.pos (r.«Data» p x bs a ss) d h j
  decl_derivable g h (r.Record p x bs a xs) d j = family_derivable g x.place.pos (r.Record p x bs a xs) d h j

  abbrev declared_to : Known × Signature Term → Outcome
  declared_to p = Ok p

  signature_is : (p q : Known × Signature Term) → declared_to p ≡ declared_to q → p.1 ≡ q.1
  signature_is p q e = let same : p ≡ q = cc in ap (λ (r : Known × Signature Term). r.1) same

  declares_derivable : {k : Known} {g : Signature Term} {ds : List Decl} {o : Outcome} → Declares fuel depth k g ds o → Derivable g → (m : Known) (h : Signature Term) → o ≡ Ok (m, h) → Derivable h
  declares_derivable (Declares.none {k = k} {g = g}) d m h e = along Derivable (signature_is (k, g) (m, h) e) d
  declares_derivable (Declares.unresolved is) d m h e = absurd cc
  declares_derivable (Declares.refused is j) d m h e = absurd cc
  declares_derivable (Declares.declared {g = g} {h = f} {r = x} is j rest) d m h e = declares_derivable rest (decl_derivable g f x d j) m h e

  pub signature_derivable : (file : File) (k : Known) (g : Signature Term) → DeclaresFile fuel depth file (Ok (k, g)) → Derivable g
  signature_derivable file k g h = declares_derivable h derivable-empty k g refl
