-- Replacing solved metavariables changes neither answers nor steps.
use Rattle.std.specs.Prelude.{◌≡◌, ℕ, ◌+◌, true, false, ◌&&◌, eqb, cond, List, [], ◌∷◌, ◌++◌, length, map, reverse, take, drop, slice_get, refl, Option, Some, None, option_map, option_and_then}
use Rattle.std.specs.Option.{option_map_or}
use Rattle.std.proofs.Common.{ap, ap₂, sym, ◌∙◌, subst as transport}
use Rattle.std.proofs.lemmas.List.{length-map, map-append, take-map, drop-map}
use Rattle.std.proofs.lemmas.Option.{slice_get-map}
use Rattle.core_rules.specs.Term.{Term, Terms, Var, Sort, Pi, Lam, App, Def, Fam, Con, Proj, Meta, env_of}
use Rattle.core_rules.specs.Substitution.{under, value_at, put_solution, replace, replace_all}
use Rattle.core_rules.specs.Signature.{Branch, Tree, Leaf, Intro, Cosplit, Split, RecordSplit, Absurd, ConBranches, con_branch, ConDecl, Signature, con_decl, field_place, fields_of}
use Rattle.core_rules.specs.Mapped.{tree_map, con_branches_map, branch_map, con_map, signature_map}
use Rattle.core_rules.specs.Elimination.{Elim, Arg, Field, elims, projections}
use Rattle.core_rules.specs.Run.{ConApp, con_app, takes, full_con, spread, kept}
use Rattle.core_rules.specs.Heads.{Solutions, Answer, Form, Blocked, is_first, argument_of, Taken, taken, Choice, Enters, Stays, Waits, enter, branch_at, choice, IsForm, IsStuck, Heads, form, argument, projection, beta, project, replaced, unsolved, call, Follows, leaf, intro, cosplit, split, record_split, stuck, After, enters, stays, waits}
use Rattle.core_rules.specs.BoundedLaws.{no_solutions, replace_elims, replace_answer, IsFull}
use Rattle.core_rules.proofs.Heads.Mapped.{tree_of-map, con_decl-map, con_place-map, field_place-map, fields_of-map, co_branch-map, con_branch-map, goes_map}
use Rattle.core_rules.proofs.Spines.{map-reverse}
use Rattle.core_rules.proofs.Heads.Replace.{env_of-replace_all, replace-subst, replace-under, replace-value_at}

-- the term is not a metavariable at arguments
abbrev pub NoMeta : Term → Type 0
NoMeta (App b t u) = NoMeta t
NoMeta (Meta m ts) = ⊥
NoMeta _ = Unit {0}

no_meta-elims : (t : Term) (es : List Elim) → NoMeta t → NoMeta (elims t es)
no_meta-elims t [] p = p
no_meta-elims t (Arg b u ∷ es) p = no_meta-elims (App b t u) es p
no_meta-elims t (Field f ∷ es) p = no_meta-elims (Proj f t) es tt

-- the head of a form is no metavariable
abbrev pub IsAnswer : Answer → Type 0
IsAnswer (Form h es) = NoMeta h
IsAnswer (Blocked m h es) = Unit {0}

form_no_meta : (g : Signature Term) (t : Term) (es : List Elim) → IsForm g t es → NoMeta t
form_no_meta g (Meta m ts) es p = absurd p
form_no_meta g (App b t u) es p = absurd p
form_no_meta g (Var i) es p = tt
form_no_meta g (Sort n) es p = tt
form_no_meta g (Pi b x a t) es p = tt
form_no_meta g (Lam b x a t) es p = tt
form_no_meta g (Def f) es p = tt
form_no_meta g (Fam d) es p = tt
form_no_meta g (Con k ps) es p = tt
form_no_meta g (Proj f t) es p = tt

mutual
  pub heads_answer : {g : Signature Term} {s : Solutions} {t : Term} {es : List Elim} {w : Answer} {n : ℕ} → Heads g s t es w n → IsAnswer w
  heads_answer {g} {s} {t} {es} (form p) = form_no_meta g t es p
  heads_answer (argument d) = heads_answer d
  heads_answer (projection d) = heads_answer d
  heads_answer (beta e d) = heads_answer d
  heads_answer (project e d) = heads_answer d
  heads_answer (replaced e d) = heads_answer d
  heads_answer (unsolved e) = tt
  heads_answer (call e d) = follows_answer d tt

  follows_answer : {g : Signature Term} {s : Solutions} {h : Term} {all es : List Elim} {T : Tree Term} {r : List Term} {w : Answer} {n : ℕ} → Follows g s h all T r es w n → NoMeta h → IsAnswer w
  follows_answer (leaf d) p = heads_answer d
  follows_answer (intro d) p = follows_answer d p
  follows_answer (cosplit e d) p = follows_answer d p
  follows_answer (split d a) p = after_answer a p
  follows_answer (record_split d) p = follows_answer d p
  follows_answer (stuck q) p = p

  after_answer : {g : Signature Term} {s : Solutions} {h : Term} {all es : List Elim} {k : ℕ} {r : List Term} {c : Choice} {w : Answer} {n : ℕ} → After g s h all k r es c w n → NoMeta h → IsAnswer w
  after_answer (enters d) p = follows_answer d p
  after_answer stays p = p
  after_answer waits p = tt

-- f for all terms that are named
module _ (f : Solutions) where
  pub replace-elims : (t : Term) (es : List Elim) → replace f (elims t es) ≡ elims (replace f t) (replace_elims f es)
  replace-elims t [] = refl
  replace-elims t (Arg b u ∷ es) = replace-elims (App b t u) es
  replace-elims t (Field k ∷ es) = replace-elims (Proj k t) es

  abbrev con_app_map : ConApp → ConApp
  con_app_map c = record { con = c.con; params = replace_all f c.params; args = map (replace f) c.args }

  con_app-replace : (t : Term) (us : List Term) → NoMeta t → con_app (replace f t) (map (replace f) us) ≡ option_map con_app_map (con_app t us)
  con_app-replace (App b t u) us p = con_app-replace t (u ∷ us) p
  con_app-replace (Meta m ts) us p = absurd p
  con_app-replace (Con k ps) us p = refl
  con_app-replace (Var i) us p = refl
  con_app-replace (Sort n) us p = refl
  con_app-replace (Pi b x a t) us p = refl
  con_app-replace (Lam b x a t) us p = refl
  con_app-replace (Def i) us p = refl
  con_app-replace (Fam d) us p = refl
  con_app-replace (Proj i t) us p = refl

  pub map-kept : (b : Branch Term) (r : List Term) → map (replace f) (kept b r) ≡ kept (branch_map (replace f) b) (map (replace f) r)
  map-kept b r = values_kept b.keep
    where
      values_kept : (ks : List ℕ) → map (replace f) (map (value_at r) ks) ≡ map (value_at (map (replace f) r)) ks
      values_kept [] = refl
      values_kept (k ∷ ks) = ap₂ (λ t ts. t ∷ ts) (replace-value_at f r k) (values_kept ks)

  pub map-spread : (k : ℕ) (us r : List Term) → map (replace f) (spread k us r) ≡ spread k (map (replace f) us) (map (replace f) r)
  map-spread k us r =
      map-append (replace f) (take k r ++ reverse us) (drop (k + 1) r)
      ∙ ap₂ ◌++◌ (map-append (replace f) (take k r) (reverse us) ∙ ap₂ ◌++◌ (sym (take-map (replace f) k r)) (map-reverse (replace f) us)) (sym (drop-map (replace f) (k + 1) r))

  pub map-projections : (g : Signature Term) (d : ℕ) (t : Term) → map (replace f) (projections g d t) ≡ projections g d (replace f t)
  map-projections g d t = projected (fields_of g d)
    where
      projected : (is : List ℕ) → map (replace f) (map (λ i. Proj i t) is) ≡ map (λ i. Proj i (replace f t)) is
      projected [] = refl
      projected (i ∷ is) = ap (λ l. Proj i (replace f t) ∷ l) (projected is)

  module _ (g : Signature Term) where
    abbrev pub image : Signature Term
    image = signature_map (replace f) g

    pub takes-image : (k n : ℕ) → takes image k n ≡ takes g k n
    takes-image k n = ap (λ o. option_map_or (λ c. eqb (length c.args) n) o false) (con_decl-map (replace f) g k) ∙ by_decl (con_decl g k)
      where
        by_decl : (o : Option (ConDecl Term)) → option_map_or (λ c. eqb (length c.args) n) (option_map (con_map (replace f)) o) false ≡ option_map_or (λ c. eqb (length c.args) n) o false
        by_decl None = refl
        by_decl (Some c) = ap (λ m. eqb m n) (length-map c.args _)

    is_first-image : (k d : ℕ) → is_first image k d ≡ is_first g k d
    is_first-image k d = ap (λ o. option_map_or (λ p. eqb p.0 d && eqb p.1 0) o false) (con_place-map (replace f) g k)

    full_con-image : (t : Term) → NoMeta t → full_con image (replace f t) ≡ option_map con_app_map (full_con g t)
    full_con-image t p = ap (option_and_then (λ s. cond (takes image s.con (length s.args)) (Some s) None)) (con_app-replace t [] p) ∙ by_app (con_app t [])
      where
        by_app : (o : Option ConApp) → option_and_then (λ s. cond (takes image s.con (length s.args)) (Some s) None) (option_map con_app_map o) ≡ option_map con_app_map (option_and_then (λ s. cond (takes g s.con (length s.args)) (Some s) None) o)
        by_app None = refl
        by_app (Some c) =
            ap (λ b. cond b (Some (con_app_map c)) None) (ap (takes image c.con) (length-map c.args (replace f)) ∙ takes-image c.con (length c.args))
            ∙ (elim (takes g c.con (length c.args)) as (λ b. cond b (Some (con_app_map c)) None ≡ option_map con_app_map (cond b (Some c) None)) [ true ↦ refl | false ↦ refl ])

    argument_of-image : (k : ℕ) (us : List Term) (i : ℕ) → argument_of image k (map (replace f) us) i ≡ option_map (replace f) (argument_of g k us i)
    argument_of-image k us i =
        ap (option_and_then (λ p. cond (takes image k (length (map (replace f) us)) && is_first image k p.0) (slice_get (map (replace f) us) p.1) None)) (field_place-map (replace f) g i)
        ∙ by_place (field_place g i)
      where
        by_place : (o : Option (ℕ × ℕ)) → option_and_then (λ p. cond (takes image k (length (map (replace f) us)) && is_first image k p.0) (slice_get (map (replace f) us) p.1) None) o
            ≡ option_map (replace f) (option_and_then (λ p. cond (takes g k (length us) && is_first g k p.0) (slice_get us p.1) None) o)
        by_place None = refl
        by_place (Some p) =
            ap₂ (λ b o. cond b o None) (ap₂ ◌&&◌ (ap (takes image k) (length-map us (replace f)) ∙ takes-image k (length us)) (is_first-image k p.0)) (slice_get-map (replace f) us p.1)
            ∙ (elim (takes g k (length us) && is_first g k p.0) as (λ b. cond b (option_map (replace f) (slice_get us p.1)) None ≡ option_map (replace f) (cond b (slice_get us p.1) None)) [ true ↦ refl | false ↦ refl ])

    abbrev pub taken_map : Taken → Taken
    taken_map p = record { value = replace f p.value; rest = replace_elims f p.rest }

    pub taken-image : (k : ℕ) (us : List Term) (es : List Elim) → taken image k (map (replace f) us) (replace_elims f es) ≡ option_map taken_map (taken g k us es)
    taken-image k us [] = refl
    taken-image k us (Arg b u ∷ es) = ap (λ l. taken image k l (replace_elims f es)) (sym (map-append (replace f) us (u ∷ []))) ∙ taken-image k (us ++ u ∷ []) es
    taken-image k us (Field i ∷ es) = ap (option_map (λ u. record { value = u; rest = replace_elims f es })) (argument_of-image k us i) ∙ by_argument (argument_of g k us i)
      where
        by_argument : (o : Option Term) → option_map (λ u. record { value = u; rest = replace_elims f es }) (option_map (replace f) o) ≡ option_map taken_map (option_map (λ u. record { value = u; rest = es }) o)
        by_argument None = refl
        by_argument (Some u) = refl

    form-image : (t : Term) (es : List Elim) → IsForm g t es → IsForm image (replace f t) (replace_elims f es)
    form-image (Var i) es p = tt
    form-image (Sort n) es p = tt
    form-image (Pi b x a t) es p = tt
    form-image (Lam b x a t) [] p = tt
    form-image (Lam b x a t) (Arg c u ∷ es) p = p
    form-image (Lam b x a t) (Field i ∷ es) p = tt
    form-image (App b t u) es p = absurd p
    form-image (Def i) es p = tree_of-map (replace f) g i ∙ ap (option_map (tree_map (replace f))) p
    form-image (Fam d) es p = tt
    form-image (Con k ps) es p = taken-image k [] es ∙ ap (option_map taken_map) p
    form-image (Proj i t) es p = absurd p
    form-image (Meta m ts) es p = absurd p

    stuck-image : (T : Tree Term) (es : List Elim) → IsStuck T es → IsStuck (tree_map (replace f) T) (replace_elims f es)
    stuck-image (Leaf t i) es p = absurd p
    stuck-image (Intro T) [] p = tt
    stuck-image (Intro T) (Arg b u ∷ es) p = absurd p
    stuck-image (Intro T) (Field i ∷ es) p = tt
    stuck-image (Cosplit bs) [] p = tt
    stuck-image (Cosplit bs) (Arg b u ∷ es) p = tt
    stuck-image (Cosplit bs) (Field i ∷ es) p = co_branch-map (replace f) bs i ∙ ap (option_map (tree_map (replace f))) p
    stuck-image (Split k bs) es p = absurd p
    stuck-image (RecordSplit k d T) es p = absurd p
    stuck-image (Absurd k) es p = tt

    abbrev pub choice_map : Choice → Choice
    choice_map (Enters b T us) = Enters (branch_map (replace f) b) (tree_map (replace f) T) (map (replace f) us)
    choice_map Stays = Stays
    choice_map (Waits m) = Waits m

    enter-image : (us : List Term) (o : Option (Branch Term × Tree Term)) → enter (map (replace f) us) (goes_map (replace f) o) ≡ choice_map (enter us o)
    enter-image us None = refl
    enter-image us (Some p) = refl

    branch_at-image : (bs : ConBranches Term) (o : Option ConApp) → branch_at (con_branches_map (replace f) bs) (option_map con_app_map o) ≡ choice_map (branch_at bs o)
    branch_at-image bs None = refl
    branch_at-image bs (Some c) = ap (enter (map (replace f) c.args)) (con_branch-map (replace f) bs c.con) ∙ enter-image c.args (con_branch bs c.con)

    pub choice-image : (bs : ConBranches Term) (w : Answer) → IsAnswer w → choice image (con_branches_map (replace f) bs) (replace_answer f w) ≡ choice_map (choice g bs w)
    choice-image bs (Blocked m h es) p = refl
    choice-image bs (Form h es) p =
        ap (branch_at (con_branches_map (replace f) bs)) (ap (full_con image) (sym (replace-elims h es)) ∙ full_con-image (elims h es) (no_meta-elims h es p))
        ∙ branch_at-image bs (full_con g (elims h es))

    module _ (s : Solutions) (x : IsFull s f) where
      pub put_image : (m : ℕ) (ts : Terms) (t : Term) → s m ≡ Some t → replace f (put_solution m ts (Some t)) ≡ replace f (Meta m ts)
      put_image m ts t e =
          replace-under f (env_of ts) t
          ∙ (ap (λ r. under r (replace f t)) (env_of-replace_all f ts)
          ∙ ap (put_solution m (replace_all f ts)) (sym (x.solved m t e)))

      mutual
        pub heads_image : {t : Term} {es : List Elim} {w : Answer} {n : ℕ} → Heads g s t es w n → Heads image no_solutions (replace f t) (replace_elims f es) (replace_answer f w) n
        heads_image {t} {es} (form p) = form (form-image t es p)
        heads_image (argument d) = argument (heads_image d)
        heads_image (projection d) = projection (heads_image d)
        heads_image {w = w} (beta {t = t} {u = u} {es = es} {n = n} e d) =
            beta e (transport (λ v. Heads image no_solutions v (replace_elims f es) (replace_answer f w) n) (replace-subst f t 0 u) (heads_image d))
        heads_image (project {k = k} {es = es} e d) = project (taken-image k [] es ∙ ap (option_map taken_map) e) (heads_image d)
        heads_image {w = w} {n = n} (replaced {m = m} {ts = ts} {t = t} {es = es} e d) =
            transport (λ v. Heads image no_solutions v (replace_elims f es) (replace_answer f w) n) (put_image m ts t e) (heads_image d)
        heads_image (unsolved {m = m} {ts = ts} {es = es} e) =
            transport (λ v. Heads image no_solutions v (replace_elims f es) (Blocked m v (replace_elims f es)) 0) (ap (put_solution m (replace_all f ts)) (sym (x.unsolved m e))) (unsolved refl)
        heads_image (call {f = i} e d) = call (tree_of-map (replace f) g i ∙ ap (option_map (tree_map (replace f))) e) (follows_image d)

        pub follows_image : {h : Term} {all es : List Elim} {T : Tree Term} {r : List Term} {w : Answer} {n : ℕ} → Follows g s h all T r es w n
            → Follows image no_solutions (replace f h) (replace_elims f all) (tree_map (replace f) T) (map (replace f) r) (replace_elims f es) (replace_answer f w) n
        follows_image {es = es} {r = r} {w = w} (leaf {t = t} {n = n} d) =
            leaf (transport (λ v. Heads image no_solutions v (replace_elims f es) (replace_answer f w) n) (replace-under f r t) (heads_image d))
        follows_image (intro d) = intro (follows_image d)
        follows_image (cosplit {f = i} {bs = bs} e d) = cosplit (co_branch-map (replace f) bs i ∙ ap (option_map (tree_map (replace f))) e) (follows_image d)
        follows_image {h} {all} {es} {r = r} {w = w} (split {k = k} {bs = bs} {v = v} {m = m} {n = n} d a) =
            split
            (transport (λ u. Heads image no_solutions u [] (replace_answer f v) m) (replace-value_at f r k) (heads_image d))
            (transport (λ c. After image no_solutions (replace f h) (replace_elims f all) k (map (replace f) r) (replace_elims f es) c (replace_answer f w) n) (sym (choice-image bs v (heads_answer d))) (after_image a))
        follows_image {h} {all} {es} {r = r} {w = w} {n = n} (record_split {k = k} {d = d} {T = T} p) =
            let e : map (replace f) (spread k (projections g d (value_at r k)) r) ≡ spread k (projections image d (value_at (map (replace f) r) k)) (map (replace f) r) =
            map-spread k (projections g d (value_at r k)) r
            ∙ ap (λ us. spread k us (map (replace f) r)) (map-projections g d (value_at r k) ∙ ap₂ (λ is u. map (λ i. Proj i u) is) (sym (fields_of-map (replace f) g d)) (replace-value_at f r k)) in
            record_split (transport (λ q. Follows image no_solutions (replace f h) (replace_elims f all) (tree_map (replace f) T) q (replace_elims f es) (replace_answer f w) n) e (follows_image p))
        follows_image {es = es} {T = T} (stuck p) = stuck (stuck-image T es p)

        pub after_image : {h : Term} {all es : List Elim} {k : ℕ} {r : List Term} {c : Choice} {w : Answer} {n : ℕ} → After g s h all k r es c w n
            → After image no_solutions (replace f h) (replace_elims f all) k (map (replace f) r) (replace_elims f es) (choice_map c) (replace_answer f w) n
        after_image {h} {all} {es} {k} {r} {w = w} {n = n} (enters {us = us} {b = b} {T = T} d) =
            enters (transport (λ q. Follows image no_solutions (replace f h) (replace_elims f all) (tree_map (replace f) T) q (replace_elims f es) (replace_answer f w) n)
            (map-kept b (spread k us r) ∙ ap (kept (branch_map (replace f) b)) (map-spread k us r)) (follows_image d))
        after_image stays = stays
        after_image waits = waits
