-- Conversion and typing are kept where a function that was known without clauses and tree gets them.
use Rattle.std.specs.Prelude.{◌≡◌, ℕ, List, [], ◌∷◌, ◌++◌, reverse, take, slice_get, Some, option_and_then, refl, zero, suc}
use Rattle.std.proofs.Common.{ap, sym, ◌∙◌, subst}
use Rattle.core_rules.specs.Term.{Term, Terms, Proj, Con}
use Rattle.core_rules.specs.Substitution.{under, value_at}
use Rattle.core_rules.specs.Signature.{Signature, Decl, Open, Function, CoreClause, Tree, Context, defs, fams, decl_type, decl_tree, def_type, tree_of, fam_decl, con_place, con_decl, field_place}
use Rattle.core_rules.specs.Elimination.{Elim, elims, args, projections}
use Rattle.core_rules.specs.Run as R
use Rattle.core_rules.specs.Run.{Run, full_con, parts, spread}
use Rattle.core_rules.specs.Conversion as C
use Rattle.core_rules.specs.Conversion.{Conv, ConvAll, IsEtaCon, IsArgument}
use Rattle.core_rules.specs.Typing as T
use Rattle.core_rules.specs.Typing.{Typing, Fits, IsCon, IsField, field_env}
use Rattle.core_rules.proofs.Signature.Known.{defs-append, fams-append}

-- h has the families of g, and of each id at least the type and the tree that g has
pub record Closes (g h : Signature Term) : Type 0 where
  pub families : fams g ≡ fams h
  pub types : (f : ℕ) (a : Term) → def_type g f ≡ Some a → def_type h f ≡ Some a
  pub trees : (f : ℕ) (T : Tree Term) → tree_of g f ≡ Some T → tree_of h f ≡ Some T

module _ (g h : Signature Term) (s : Closes g h) where
  full-agrees : (t : Term) → full_con g t ≡ full_con h t
  full-agrees t = rw s.families refl

  parts-agree : (d : ℕ) (t : Term) → parts g d t ≡ parts h d t
  parts-agree d t = rw s.families refl

  projections-agree : (d : ℕ) (t : Term) → projections g d t ≡ projections h d t
  projections-agree d t = rw s.families refl

  fam-agrees : (d : ℕ) → fam_decl g d ≡ fam_decl h d
  fam-agrees d = rw s.families refl

  con-agrees : (k : ℕ) → con_place g k ≡ con_place h k
  con-agrees k = rw s.families refl

  con_decl-agrees : (k : ℕ) → con_decl g k ≡ con_decl h k
  con_decl-agrees k = rw s.families refl

  field-agrees : (k : ℕ) → field_place g k ≡ field_place h k
  field-agrees k = rw s.families refl

  pub run-closing : {T : Tree Term} {r : List Term} {es : List Elim} {t : Term} → Run g T r es t → Run h T r es t
  run-closing R.leaf = R.leaf
  run-closing (R.intro p) = R.intro (run-closing p)
  run-closing (R.cosplit e p) = R.cosplit e (run-closing p)
  run-closing (R.split {r = r} {k = k} e w p) = R.split (sym (full-agrees (value_at r k)) ∙ e) w (run-closing p)
  run-closing (R.record_split {T = T} {r = r} {k = k} {d = d} {es = es} {t = t} p) =
      R.record_split (subst (λ us. Run h T (spread k us r) es t) (parts-agree d (value_at r k)) (run-closing p))

  abbrev eta-closing : (k d : ℕ) → IsEtaCon g k d → IsEtaCon h k d
  eta-closing k d is = record { decl = is.decl; con = is.con; is_decl = sym (fam-agrees d) ∙ is.is_decl; is_con = sym (con_decl-agrees k) ∙ is.is_con; place = sym (con-agrees k) ∙ is.place; eta = is.eta }

  argument-closing : (f : ℕ) (t u : Term) → IsArgument g f t u → IsArgument h f t u
  argument-closing f t u is = record {
    fam = is.fam;
    at = is.at;
    con = is.con;
    place = sym (field-agrees f) ∙ is.place;
    full = sym (full-agrees t) ∙ is.full;
    own = sym (con-agrees is.con.con) ∙ is.own;
    is = is.is;
  }

  eta-conv : (k d : ℕ) (t : Term) (ps : Terms) (is : IsEtaCon g k d) → Conv h t (elims (Con k ps) (args is.con.args (projections g d t)))
  eta-conv k d t ps is = subst (λ us. Conv h t (elims (Con k ps) (args is.con.args us))) (sym (projections-agree d t)) (C.eta_record ps (eta-closing k d is))

  mutual
    pub conv-closing : {t u : Term} → Conv g t u → Conv h t u
    conv-closing C.same = C.same
    conv-closing (C.back k) = C.back (conv-closing k)
    conv-closing (C.then k l) = C.then (conv-closing k) (conv-closing l)
    conv-closing (C.pi k l) = C.pi (conv-closing k) (conv-closing l)
    conv-closing (C.lam k) = C.lam (conv-closing k)
    conv-closing (C.app k l) = C.app (conv-closing k) (conv-closing l)
    conv-closing C.con = C.con
    conv-closing (C.proj k) = C.proj (conv-closing k)
    conv-closing (C.meta k) = C.meta (conv_all-closing k)
    conv-closing C.beta = C.beta
    conv-closing (C.eta {x = x} {s = a}) = C.eta {x = x} {s = a}
    conv-closing (C.eta_record {k = k} {d = d} {t = t} ps is) = eta-conv k d t ps is
    conv-closing (C.field {f = f} {t = t} {u = u} is) = C.field (argument-closing f t u is)
    conv-closing (C.unfolds {T = T} f es e r) = C.unfolds f es (s.trees f T e) (run-closing r)

    pub conv_all-closing : {ts us : Terms} → ConvAll g ts us → ConvAll h ts us
    conv_all-closing C.ends = C.ends
    conv_all-closing (C.both k l) = C.both (conv-closing k) (conv_all-closing l)

  abbrev is_con-closing : (k : ℕ) → IsCon g k → IsCon h k
  is_con-closing k is = record { fam = is.fam; at = is.at; decl = is.decl; con = is.con; place = sym (con-agrees k) ∙ is.place; is_decl = sym (fam-agrees is.fam) ∙ is.is_decl; is_con = is.is_con }

  abbrev is_field-closing : (f : ℕ) → IsField g f → IsField h f
  is_field-closing f is = record { fam = is.fam; at = is.at; decl = is.decl; entry = is.entry; place = sym (field-agrees f) ∙ is.place; is_decl = sym (fam-agrees is.fam) ∙ is.is_decl; is_entry = is.is_entry }

  env-closing : (f : ℕ) (is : IsField g f) (ps : List Term) (t : Term) → field_env h f (is_field-closing f is) ps t ≡ field_env g f is ps t
  env-closing f is ps t = ap (λ us. reverse (ps ++ take is.at us)) (sym (projections-agree is.fam t))

  mutual
    pub typing-closing : {c : Context Term} {t a : Term} → Typing g c t a → Typing h c t a
    typing-closing (T.var e) = T.var e
    typing-closing T.sort = T.sort
    typing-closing (T.pi k l) = T.pi (typing-closing k) (typing-closing l)
    typing-closing (T.lam k l) = T.lam (typing-closing k) (typing-closing l)
    typing-closing (T.app k l) = T.app (typing-closing k) (typing-closing l)
    typing-closing (T.def {f = f} {a = a} e) = T.def (s.types f a e)
    typing-closing (T.fam {d = d} e) = T.fam (sym (fam-agrees d) ∙ e)
    typing-closing (T.con {k = k} is l) = T.con (is_con-closing k is) (fits-closing l)
    typing-closing {c = c} (T.proj {f = f} {t = t} is ps e k) =
        subst (λ r. Typing h c (Proj f t) (under r is.entry.ty)) (env-closing f is ps t) (T.proj (is_field-closing f is) ps e (typing-closing k))
    typing-closing (T.convert k l) = T.convert (typing-closing k) (conv-closing l)

    pub fits-closing : {c es : Context Term} {r : List Term} → Fits g c r es → Fits h c r es
    fits-closing T.none = T.none
    fits-closing (T.more k l) = T.more (fits-closing k) (typing-closing l)

-- the open function is the last declaration
module _ (g : Signature Term) (x : ℕ) (a : Term) (qs : List (CoreClause Term)) (T : Tree Term) where
  same_families : fams (g ++ Open x a ∷ []) ≡ fams (g ++ Function x a qs T ∷ [])
  same_families = fams-append g (Open x a ∷ []) ∙ sym (fams-append g (Function x a qs T ∷ []))

  same_types : (ds : List (Decl Term)) (f : ℕ) (b : Term) → option_and_then decl_type (slice_get (ds ++ Open x a ∷ []) f) ≡ Some b → option_and_then decl_type (slice_get (ds ++ Function x a qs T ∷ []) f) ≡ Some b
  same_types [] zero b e = e
  same_types [] (suc f) b e = e
  same_types (d ∷ ds) zero b e = e
  same_types (d ∷ ds) (suc f) b e = same_types ds f b e

  same_trees : (ds : List (Decl Term)) (f : ℕ) (U : Tree Term) → option_and_then decl_tree (slice_get (ds ++ Open x a ∷ []) f) ≡ Some U → option_and_then decl_tree (slice_get (ds ++ Function x a qs T ∷ []) f) ≡ Some U
  same_trees [] zero U e = absurd cc
  same_trees [] (suc f) U e = e
  same_trees (d ∷ ds) zero U e = e
  same_trees (d ∷ ds) (suc f) U e = same_trees ds f U e

  pub closes : Closes (g ++ Open x a ∷ []) (g ++ Function x a qs T ∷ [])
  closes = record {
    families = same_families;
    types = λ f b e. rw defs-append (same_types (defs g) f b (rw defs-append at e));
    trees = λ f U e. rw defs-append (same_trees (defs g) f U (rw defs-append at e));
  }
