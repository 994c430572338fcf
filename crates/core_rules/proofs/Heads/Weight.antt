-- What bounds the moves that take no step: a weight of terms with their solutions put in, which counts trees.
use Rattle.std.specs.Prelude.{◌≡◌, ℕ, ◌+◌, ◌≤◌, true, false, eqb, cond, List, [], ◌∷◌, ◌++◌, map, reverse, take, drop, Option, Some, None, zero, suc}
use Rattle.std.specs.Option.{option_map_or}
use Rattle.std.specs.List.{AllByRecursion}
use Rattle.std.proofs.Common.{ap, sym, arith, subst as transport}
use Rattle.std.proofs.lemmas.List.{reverse-append}
use Rattle.core_rules.specs.Term.{Term, Var, Sort, Pi, Lam, App, Def, Fam, Con, Proj, Meta}
use Rattle.core_rules.specs.Substitution.{value_at, replace}
use Rattle.core_rules.specs.Signature.{Branch, Tree, Leaf, Intro, Cosplit, Split, RecordSplit, Absurd, CoBranches, NoField, OnField, ConBranches, NoCon, Refuted, Goes, co_branch, con_branch, Signature, tree_of, fields_of}
use Rattle.core_rules.specs.Elimination.{Elim, Arg, Field, elims, projections}
use Rattle.core_rules.specs.Run.{ConApp, con_app, spread, kept}
use Rattle.core_rules.specs.Heads.{Solutions, Answer, Form, Blocked, Choice, IsForm, Heads, form, argument, projection, beta, project, replaced, unsolved, call, Follows, leaf, intro, cosplit, split, record_split, stuck, After, enters, stays, waits}
use Rattle.core_rules.specs.BoundedLaws.{IsFull}
use Rattle.core_rules.proofs.Heads.OneAnswer.{one_some}
use Rattle.core_rules.proofs.Heads.Replaced.{put_image}

abbrev mutual
  pub tree_size : Tree Term → ℕ
  tree_size (Leaf t i) = 1
  tree_size (Intro T) = 1 + tree_size T
  tree_size (Cosplit bs) = 1 + co_size bs
  tree_size (Split k bs) = 1 + con_size bs
  tree_size (RecordSplit k d T) = 3 + tree_size T
  tree_size (Absurd k) = 1

  pub co_size : CoBranches Term → ℕ
  co_size NoField = 0
  co_size (OnField f T bs) = tree_size T + co_size bs

  pub con_size : ConBranches Term → ℕ
  con_size NoCon = 0
  con_size (Refuted k bs) = con_size bs
  con_size (Goes k b T bs) = tree_size T + con_size bs

pub co_branch_size : (bs : CoBranches Term) (f : ℕ) (T : Tree Term) → co_branch bs f ≡ Some T → tree_size T ≤ co_size bs
co_branch_size NoField f T e = absurd cc
co_branch_size (OnField h S bs) f T e =
    (elim (eqb h f) as (λ o. cond o (Some S) (co_branch bs f) ≡ Some T → tree_size T ≤ tree_size S + co_size bs) [ true ↦ λ e. let x = ap tree_size (one_some e) in omega (arith, x) | false ↦ λ e. let x = co_branch_size bs f T e in omega (arith, x) ]) e

pub con_branch_size : (bs : ConBranches Term) (k : ℕ) (b : Branch Term) (T : Tree Term) → con_branch bs k ≡ Some (b, T) → tree_size T ≤ con_size bs
con_branch_size NoCon k b T e = absurd cc
con_branch_size (Refuted h bs) k b T e =
    (elim (eqb h k) as (λ o. cond o None (con_branch bs k) ≡ Some (b, T) → tree_size T ≤ con_size bs) [ true ↦ λ e. absurd cc | false ↦ λ e. con_branch_size bs k b T e ]) e
con_branch_size (Goes h c S bs) k b T e =
    (elim (eqb h k) as (λ o. ◌≡◌ {A = Option (Branch Term × Tree Term)} (cond o (Some (c, S)) (con_branch bs k)) (Some (b, T)) → tree_size T ≤ tree_size S + con_size bs) [ true ↦ λ e. let x = ap (λ p. tree_size p.1) (one_some e) in omega (arith, x) | false ↦ λ e. let x = con_branch_size bs k b T e in omega (arith, x) ]) e

module _ (g : Signature Term) where
  abbrev pub weight : Term → ℕ
  weight (App b t u) = weight t + weight u + 2
  weight (Proj f t) = weight t + 2
  weight (Def f) = 1 + option_map_or tree_size (tree_of g f) 0
  weight _ = 0

  module _ (f : Solutions) where
    -- with the solutions put in
    abbrev pub full_weight : Term → ℕ
    full_weight t = weight (replace f t)

    abbrev pub spine_weight : List Elim → ℕ
    spine_weight [] = 0
    spine_weight (Arg b u ∷ es) = full_weight u + 1 + spine_weight es
    spine_weight (Field i ∷ es) = 1 + spine_weight es

    abbrev pub at_spine : Term → List Elim → ℕ
    at_spine t es = full_weight t + spine_weight es

    abbrev pub answer_weight : Answer → ℕ
    answer_weight (Form h es) = at_spine h es
    answer_weight (Blocked m h es) = at_spine h es

    -- all of these weigh at most b
    abbrev pub Light : ℕ → List Term → Type 0
    Light b ts = AllByRecursion (λ t. full_weight t ≤ b) ts

    pub light_join : (b : ℕ) (ts us : List Term) → Light b ts → Light b us → Light b (ts ++ us)
    light_join b [] us p q = q
    light_join b (t ∷ ts) us p q = (p.0, light_join b ts us p.1 q)

    light_reverse : (b : ℕ) (ts : List Term) → Light b ts → Light b (reverse ts)
    light_reverse b [] p = tt
    light_reverse b (t ∷ ts) p = transport (Light b) (sym (reverse-append (t ∷ []) ts)) (light_join b (reverse ts) (t ∷ []) (light_reverse b ts p.1) (p.0, tt))

    light_take : (b k : ℕ) (ts : List Term) → Light b ts → Light b (take k ts)
    light_take b zero ts p = tt
    light_take b (suc k) [] p = tt
    light_take b (suc k) (t ∷ ts) p = (p.0, light_take b k ts p.1)

    light_drop : (b k : ℕ) (ts : List Term) → Light b ts → Light b (drop k ts)
    light_drop b zero ts p = p
    light_drop b (suc k) [] p = tt
    light_drop b (suc k) (t ∷ ts) p = light_drop b k ts p.1

    pub light_value : (b k : ℕ) (ts : List Term) → Light b ts → full_weight (value_at ts k) ≤ b
    light_value b k [] p = omega arith
    light_value b zero (t ∷ ts) p = p.0
    light_value b (suc k) (t ∷ ts) p = light_value b k ts p.1

    pub light_more : (b c : ℕ) → b ≤ c → (ts : List Term) → Light b ts → Light c ts
    light_more b c h [] p = tt
    light_more b c h (t ∷ ts) p = (let x = p.0 in omega (arith, x, h), light_more b c h ts p.1)

    pub light_spread : (b k : ℕ) (us r : List Term) → Light b us → Light b r → Light b (spread k us r)
    light_spread b k us r p q = light_join b (take k r ++ reverse us) (drop (k + 1) r) (light_join b (take k r) (reverse us) (light_take b k r q) (light_reverse b us p)) (light_drop b (k + 1) r q)

    pub light_kept : (b : ℕ) (c : Branch Term) (r : List Term) → Light b r → Light b (kept c r)
    light_kept b c r p = values c.keep
      where
        values : (ks : List ℕ) → Light b (map (value_at r) ks)
        values [] = tt
        values (k ∷ ks) = (light_value b k r p, values ks)

    pub light_projections : (b d : ℕ) (t : Term) → full_weight t ≤ b → Light (b + 2) (projections g d t)
    light_projections b d t h = each (fields_of g d)
      where
        each : (is : List ℕ) → Light (b + 2) (map (λ i. Proj i t) is)
        each [] = tt
        each (i ∷ is) = (omega (arith, h), each is)

    abbrev pub total : List Term → ℕ
    total [] = 0
    total (t ∷ ts) = full_weight t + total ts

    pub light_total : (ts : List Term) → Light (total ts) ts
    light_total [] = tt
    light_total (t ∷ ts) = (omega arith, light_more (total ts) (full_weight t + total ts) (omega arith) ts (light_total ts))

    -- the arguments of an application
    abbrev Inside : ℕ → Term → Type 0
    Inside b (App c t u) = (full_weight u ≤ b) × Inside b t
    Inside b _ = Unit {0}

    inside_elims : (b : ℕ) (t : Term) (es : List Elim) → Inside b t → spine_weight es ≤ b → Inside b (elims t es)
    inside_elims b t [] p h = p
    inside_elims b t (Arg c u ∷ es) p h = inside_elims b (App c t u) es (omega (arith, h), p) (omega (arith, h))
    inside_elims b t (Field i ∷ es) p h = inside_elims b (Proj i t) es tt (omega (arith, h))

    con_args : (b : ℕ) (t : Term) (us : List Term) (c : ConApp) → con_app t us ≡ Some c → Inside b t → Light b us → Light b c.args
    con_args b (App a t u) us c e p q = con_args b t (u ∷ us) c e p.1 (p.0, q)
    con_args b (Con k ps) us c e p q = transport (λ c. Light b c.args) (one_some e) q
    con_args b (Var i) us c e p q = absurd cc
    con_args b (Sort n) us c e p q = absurd cc
    con_args b (Pi a x s t) us c e p q = absurd cc
    con_args b (Lam a x s t) us c e p q = absurd cc
    con_args b (Def i) us c e p q = absurd cc
    con_args b (Fam i) us c e p q = absurd cc
    con_args b (Proj i t) us c e p q = absurd cc
    con_args b (Meta m ts) us c e p q = absurd cc

    -- the head of an answer is no application
    abbrev pub IsBare : Term → Type 0
    IsBare (App b t u) = ⊥
    IsBare _ = Unit {0}

    bare_inside : (b : ℕ) (h : Term) → IsBare h → Inside b h
    bare_inside b (App c t u) p = absurd p
    bare_inside b (Var i) p = tt
    bare_inside b (Sort n) p = tt
    bare_inside b (Pi a x s t) p = tt
    bare_inside b (Lam a x s t) p = tt
    bare_inside b (Def i) p = tt
    bare_inside b (Fam i) p = tt
    bare_inside b (Con k ps) p = tt
    bare_inside b (Proj i t) p = tt
    bare_inside b (Meta m ts) p = tt

    pub form_args : (b : ℕ) (h : Term) (es : List Elim) (c : ConApp) → IsBare h → spine_weight es ≤ b → con_app (elims h es) [] ≡ Some c → Light b c.args
    form_args b h es c p q e = con_args b (elims h es) [] c e (inside_elims b h es (bare_inside b h p) q) tt

    abbrev pub HasBareHead : Answer → Type 0
    HasBareHead (Form h es) = IsBare h
    HasBareHead (Blocked m h es) = IsBare h

    form_bare : (t : Term) (es : List Elim) → IsForm g t es → IsBare t
    form_bare (App b t u) es p = absurd p
    form_bare (Var i) es p = tt
    form_bare (Sort n) es p = tt
    form_bare (Pi a x s t) es p = tt
    form_bare (Lam a x s t) es p = tt
    form_bare (Def i) es p = tt
    form_bare (Fam i) es p = tt
    form_bare (Con k ps) es p = tt
    form_bare (Proj i t) es p = tt
    form_bare (Meta m ts) es p = tt

    mutual
      pub heads_bare : {s : Solutions} {t : Term} {es : List Elim} {w : Answer} {n : ℕ} → Heads g s t es w n → HasBareHead w
      heads_bare {s} {t} {es} (form p) = form_bare t es p
      heads_bare (argument d) = heads_bare d
      heads_bare (projection d) = heads_bare d
      heads_bare (beta e d) = heads_bare d
      heads_bare (project e d) = heads_bare d
      heads_bare (replaced e d) = heads_bare d
      heads_bare (unsolved e) = tt
      heads_bare (call e d) = follows_bare d tt

      follows_bare : {s : Solutions} {h : Term} {all es : List Elim} {T : Tree Term} {r : List Term} {w : Answer} {n : ℕ} → Follows g s h all T r es w n → IsBare h → HasBareHead w
      follows_bare (leaf d) p = heads_bare d
      follows_bare (intro d) p = follows_bare d p
      follows_bare (cosplit e d) p = follows_bare d p
      follows_bare (split d a) p = after_bare a p
      follows_bare (record_split d) p = follows_bare d p
      follows_bare (stuck q) p = p

      after_bare : {s : Solutions} {h : Term} {all es : List Elim} {k : ℕ} {r : List Term} {c : Choice} {w : Answer} {n : ℕ} → After g s h all k r es c w n → IsBare h → HasBareHead w
      after_bare (enters d) p = follows_bare d p
      after_bare stays p = p
      after_bare waits p = p

    -- an answer in no steps weighs no more than its term
    module _ (s : Solutions) (x : IsFull s f) where
      mutual
        pub no_heavier : {t : Term} {es : List Elim} {w : Answer} {n : ℕ} → Heads g s t es w n → n ≡ 0 → answer_weight w ≤ at_spine t es
        no_heavier (form p) e = omega arith
        no_heavier (argument d) e = let h = no_heavier d e in omega (arith, h)
        no_heavier (projection d) e = let h = no_heavier d e in omega (arith, h)
        no_heavier (beta i d) e = absurd cc
        no_heavier (project i d) e = absurd cc
        no_heavier {w = w} (replaced {m = m} {ts = ts} {t = t} {es = es} i d) e =
            let h = no_heavier d e in
            transport (λ u. answer_weight w ≤ weight u + spine_weight es) (put_image f g s x m ts t i) h
        no_heavier (unsolved i) e = omega arith
        no_heavier (call i d) e = follows_no_heavier d e

        follows_no_heavier : {h : Term} {all es : List Elim} {T : Tree Term} {r : List Term} {w : Answer} {n : ℕ} → Follows g s h all T r es w n → n ≡ 0 → answer_weight w ≤ at_spine h all
        follows_no_heavier (leaf d) e = absurd cc
        follows_no_heavier (intro d) e = follows_no_heavier d e
        follows_no_heavier (cosplit i d) e = follows_no_heavier d e
        follows_no_heavier (split d a) e = after_no_heavier a (omega (arith, e))
        follows_no_heavier (record_split d) e = follows_no_heavier d e
        follows_no_heavier (stuck p) e = omega arith

        after_no_heavier : {h : Term} {all es : List Elim} {k : ℕ} {r : List Term} {c : Choice} {w : Answer} {n : ℕ} → After g s h all k r es c w n → n ≡ 0 → answer_weight w ≤ at_spine h all
        after_no_heavier (enters d) e = follows_no_heavier d e
        after_no_heavier stays e = omega arith
        after_no_heavier waits e = omega arith
