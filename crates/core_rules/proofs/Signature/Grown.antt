-- Conversion and typing are kept as a signature goes on.
use Rattle.std.specs.Prelude.{◌≡◌, ℕ, ◌+◌, ◌<◌, ◌≤◌, List, [], ◌∷◌, ◌++◌, length, reverse, take, drop, slice_get, Some, refl}
use Rattle.std.proofs.Common.{ap, sym, ◌∙◌, subst, arith}
use Rattle.std.proofs.lemmas.List.{length-append, take-append-drop}
use Rattle.std.proofs.lemmas.Option.{slice_get_within}
use Rattle.core_rules.specs.Term.{Term, Terms, Var, Con, Proj}
use Rattle.core_rules.specs.Substitution.{over, under}
use Rattle.core_rules.specs.Signature.{Signature, Decl, Open, Function, Family, Postulate, Tree, Leaf, Intro, Cosplit, Split, RecordSplit, Absurd, CoBranches, NoField, OnField, ConBranches, NoCon, Refuted, Goes, Context, defs, fams, decl_tree, tree_of}
use Rattle.core_rules.specs.Elimination.{Elim, Arg, Field, elims, elims_over, args, projections}
use Rattle.core_rules.specs.Run.{Run}
use Rattle.core_rules.specs.Conversion as C
use Rattle.core_rules.specs.Conversion.{Conv, ConvAll, IsEtaCon}
use Rattle.core_rules.specs.Typing as T
use Rattle.core_rules.specs.Typing.{Typing, Fits, IsField, field_env}
use Rattle.core_rules.specs.InScope.{TreeInScope, CoBranchesInScope, ConBranchesInScope, SignatureInScope, FamiliesHaveShape, any_meta}
use Rattle.core_rules.specs.Laws.{IsLifted, RunsTo}
use Rattle.core_rules.proofs.Substitution.Traversal.{over_id}
use Rattle.core_rules.proofs.Substitution.Lifted.{shift_variable}
use Rattle.core_rules.proofs.Run.Records.{goes_on}
use Rattle.core_rules.proofs.Pairwise as moved
use Rattle.core_rules.proofs.Run.Moved.{RecordsOf, RecordsOfFields, RecordsOfCons, run-moved}
use Rattle.core_rules.proofs.Conversion.Changed.{conv_by}
use Rattle.core_rules.proofs.Signature.Places.{def_stands}
use Rattle.core_rules.proofs.Signature.Known.{fams-append, fam-known, type-known, tree-known, full-known, fields-known, projections-known, record-known, eta-known, argument-known, is_con-known, is_field-known}

-- the records that a tree in scope splits are families of the signature
module _ (g : Signature Term) (M : ℕ → ℕ → Type 0) (n : ℕ) (b : length (fams g) ≤ n) where
  mutual
    scoped_records : (k : ℕ) (T : Tree Term) → TreeInScope g M k T → RecordsOf (λ d. d < n) T
    scoped_records k (Leaf t q) h = tt
    scoped_records k (Intro T) h = scoped_records (k + 1) T h
    scoped_records k (Cosplit bs) h = scoped_fields k bs h
    scoped_records k (Split i bs) h = scoped_cons k bs h.1
    scoped_records k (RecordSplit i d T) h = (omega (arith, b, h.1), scoped_records _ T h.2)
    scoped_records k (Absurd i) h = tt

    scoped_fields : (k : ℕ) (bs : CoBranches Term) → CoBranchesInScope g M k bs → RecordsOfFields (λ d. d < n) bs
    scoped_fields k NoField h = tt
    scoped_fields k (OnField f T bs) h = (scoped_records k T h.1, scoped_fields k bs h.2)

    scoped_cons : (k : ℕ) (bs : ConBranches Term) → ConBranchesInScope g M k bs → RecordsOfCons (λ d. d < n) bs
    scoped_cons k NoCon h = tt
    scoped_cons k (Refuted c bs) h = scoped_cons k bs h.1
    scoped_cons k (Goes c br T bs) h = (scoped_records _ T h.2, scoped_cons k bs h.3)

fewer_before : (g : Signature Term) (p x : ℕ) (a : Term) → length (fams (take p g ++ Open x a ∷ [])) ≤ length (fams g)
fewer_before g p x a =
    let e : length (fams (take p g)) + length (fams (drop p g)) ≡ length (fams g) = sym (length-append (fams (take p g)) (fams (drop p g))) ∙ ap length (sym (fams-append (take p g) (drop p g)) ∙ ap fams (take-append-drop p g)) in
    let o : length (fams (take p g ++ Open x a ∷ [])) ≡ length (fams (take p g)) + 0 = ap length (fams-append (take p g) (Open x a ∷ [])) ∙ length-append (fams (take p g)) [] in
    omega (arith, e, o)

same_tree : {T U : Tree Term} → Some T ≡ Some U → T ≡ U
same_tree e = cc e

module _ (g : Signature Term) (s : SignatureInScope g any_meta) where
  function_records : (p : ℕ) (d : Decl Term) (T : Tree Term) → slice_get g p ≡ Some d → decl_tree d ≡ Some T → RecordsOf (λ n. n < length (fams g)) T
  function_records p (Postulate x a) T e h = absurd cc
  function_records p (Family d) T e h = absurd cc
  function_records p (Open x a) T e h = absurd cc
  function_records p (Function x a qs U) T e h =
      subst (RecordsOf (λ n. n < length (fams g))) (same_tree h)
      (scoped_records (take p g ++ Open x a ∷ []) any_meta (length (fams g)) (fewer_before g p x a) 0 U (s p (Function x a qs U) e).1)

  tree_records : (f : ℕ) (T : Tree Term) → tree_of g f ≡ Some T → RecordsOf (λ n. n < length (fams g)) T
  tree_records f T e =
      let v = goes_on decl_tree (slice_get (defs g) f) T e in
      let p = def_stands g f v.value v.is in
      function_records p.place v.value T p.is v.holds

abbrev stay : ℕ → ℕ → Term
stay d i = Var i

stay_lifted : IsLifted stay
stay_lifted = record { own = λ d. refl; later = λ d i. sym (shift_variable i 1) }

stays : (t : Term) → over stay 0 t ≡ t
stays t = over_id stay (λ d i. refl) 0 t

elims-stay : (es : List Elim) → elims_over stay 0 es ≡ es
elims-stay [] = refl
elims-stay (Arg b u ∷ es) = λ i. Arg b (stays u i) ∷ elims-stay es i
elims-stay (Field f ∷ es) = λ i. Field f ∷ elims-stay es i

module _ (g h : Signature Term) (s : SignatureInScope g any_meta) (shapes : FamiliesHaveShape (g ++ h)) where
  pub run-grown : (f : ℕ) (T : Tree Term) (es : List Elim) (t : Term) → tree_of g f ≡ Some T → Run g T [] es t → RunsTo (g ++ h) T [] es t
  run-grown f T es t e r =
      let m : RunsTo (g ++ h) T [] (elims_over stay 0 es) (over stay 0 t) = run-moved g (g ++ h) shapes (full-known g h) (λ n. n < length (fams g)) (λ n b. fields-known g h n b) (λ n w c b e. record-known g h n w c b e)
      stay stay_lifted 0 (tree_records g s f T e) r moved.nil in
      rw (elims-stay es, stays t) at m

  eta-grown : (k d : ℕ) (t : Term) (ps : Terms) (is : IsEtaCon g k d) → Conv (g ++ h) t (elims (Con k ps) (args is.con.args (projections g d t)))
  eta-grown k d t ps is =
      let b : d < length (fams g) = slice_get_within (fams g) d is.decl is.is_decl in
      C.then (C.eta_record ps (eta-known g h k d is)) (conv_by (ap (λ us. elims (Con k ps) (args is.con.args us)) (projections-known g h d t b)))

  mutual
    pub conv-grown : {t u : Term} → Conv g t u → Conv (g ++ h) t u
    conv-grown C.same = C.same
    conv-grown (C.back k) = C.back (conv-grown k)
    conv-grown (C.then k l) = C.then (conv-grown k) (conv-grown l)
    conv-grown (C.pi k l) = C.pi (conv-grown k) (conv-grown l)
    conv-grown (C.lam k) = C.lam (conv-grown k)
    conv-grown (C.app k l) = C.app (conv-grown k) (conv-grown l)
    conv-grown C.con = C.con
    conv-grown (C.proj k) = C.proj (conv-grown k)
    conv-grown (C.meta k) = C.meta (conv_all-grown k)
    conv-grown C.beta = C.beta
    conv-grown (C.eta {x = x} {s = a}) = C.eta {x = x} {s = a}
    conv-grown (C.eta_record {k = k} {d = d} {t = t} ps is) = eta-grown k d t ps is
    conv-grown (C.field {f = f} {t = t} {u = u} is) = C.field (argument-known g h f t u is)
    conv-grown (C.unfolds {T = T} {u = u} f es e r) = let m = run-grown f T es u e r in C.then (C.unfolds f es (tree-known g h f T e) m.runs) m.is

    pub conv_all-grown : {ts us : Terms} → ConvAll g ts us → ConvAll (g ++ h) ts us
    conv_all-grown C.ends = C.ends
    conv_all-grown (C.both k l) = C.both (conv-grown k) (conv_all-grown l)

  env-grown : (f : ℕ) (is : IsField g f) (ps : List Term) (t : Term) → field_env (g ++ h) f (is_field-known g h f is) ps t ≡ field_env g f is ps t
  env-grown f is ps t =
      let b : is.fam < length (fams g) = slice_get_within (fams g) is.fam is.decl is.is_decl in
      ap (λ us. reverse (ps ++ take is.at us)) (projections-known g h is.fam t b)

  mutual
    pub typing-grown : {c : Context Term} {t a : Term} → Typing g c t a → Typing (g ++ h) c t a
    typing-grown (T.var e) = T.var e
    typing-grown T.sort = T.sort
    typing-grown (T.pi k l) = T.pi (typing-grown k) (typing-grown l)
    typing-grown (T.lam k l) = T.lam (typing-grown k) (typing-grown l)
    typing-grown (T.app k l) = T.app (typing-grown k) (typing-grown l)
    typing-grown (T.def {f = f} {a = a} e) = T.def (type-known g h f a e)
    typing-grown (T.fam {d = d} {decl = decl} e) = T.fam (fam-known g h d decl e)
    typing-grown (T.con {k = k} is l) = T.con (is_con-known g h k is) (fits-grown l)
    typing-grown {c = c} (T.proj {f = f} {t = t} is ps e k) =
        subst (λ r. Typing (g ++ h) c (Proj f t) (under r is.entry.ty)) (env-grown f is ps t) (T.proj (is_field-known g h f is) ps e (typing-grown k))
    typing-grown (T.convert k l) = T.convert (typing-grown k) (conv-grown l)

    pub fits-grown : {c es : Context Term} {r : List Term} → Fits g c r es → Fits (g ++ h) c r es
    fits-grown T.none = T.none
    fits-grown (T.more k l) = T.more (fits-grown k) (typing-grown l)
