-- A yes of bounded conversion implies conversion, with solved metavariables replaced.
use Rattle.std.specs.Prelude.{◌≡◌, ◌≢◌, ℕ, Bool, true, false, ◌&&◌, eqb, cond, List, [], ◌∷◌, ◌++◌, length, map, slice_get, refl, Option, Some, None, option_map, option_and_then, zero, suc}
use Rattle.std.specs.Option.{option_map_or}
use Rattle.std.proofs.Common.{ap, sym, ◌∙◌, subst as transport, append-nil, append_assoc, eqb-true, inl, inr}
use Rattle.std.proofs.lemmas.List.{length-map}
use Rattle.core_rules.specs.Term.{Term, Terms, Var, Sort, Pi, Lam, App, Def, Fam, Con, Proj, Meta}
use Rattle.core_rules.specs.Substitution.{replace, replace_all}
use Rattle.core_rules.specs.Signature.{Telescope, FamDecl, ConDecl, Signature, con_place, con_decl, fam_decl, fields_of}
use Rattle.core_rules.specs.Mapped.{entry_map, signature_map}
use Rattle.core_rules.specs.Elimination.{Elim, Arg, Field, elims, projections}
use Rattle.core_rules.specs.Conversion as C
use Rattle.core_rules.specs.Conversion.{Conv, IsEtaCon}
use Rattle.core_rules.specs.Run.{ConApp, con_app, takes}
use Rattle.core_rules.specs.InScope.{FamiliesHaveShape}
use Rattle.core_rules.specs.Heads.{Solutions, Answer, Form, Blocked, Bounded, Within, Out, HeadOf}
use Rattle.core_rules.specs.Bounded.{Verdict, Yes, No, OutOfFuel, OutOfDepth, WaitsFor, Part, Pair, Decision, Parts, same_flag, with_part, argument_parts, term_parts, Cut, cut_more, last_field, Lambda, lambda, applied, fitting, RecordValue, record_value, Kind, Value, Constructor, Neither, con_kind, kind, parts_or, if_one, same_heads, by_field, by_kind, by_lambda, decide, below, InOrder, Decided, ConvOf}
use Rattle.core_rules.specs.BoundedLaws.{shown, replace_elims, IsFull}
use Rattle.core_rules.proofs.Heads.Fit.{HasFitTrees}
use Rattle.core_rules.proofs.Heads.OneAnswer.{one_some}
use Rattle.core_rules.proofs.Heads.Next.{same_flag-true}
use Rattle.core_rules.proofs.Heads.Mapped.{fields_of-map}
use Rattle.core_rules.proofs.Heads.Replace.{replace-shift}
use Rattle.core_rules.proofs.Heads.Replaced.{image, replace-elims, map-projections}
use Rattle.core_rules.proofs.Heads.Gather as E
use Rattle.core_rules.proofs.Heads.Gather.{ConvEach, ConvElims, conv-elims_all}
use Rattle.core_rules.proofs.Heads.Sound.{con_app-more, eqb_same, and_true, cond_some, full_con_by, elims_args}
use Rattle.core_rules.proofs.Heads.HeadConverts.{eta_con_image, heads_convert}
use Rattle.core_rules.proofs.Heads.ReplacedVerdict.{fitting-image}
use Rattle.core_rules.proofs.Heads.Regular.{eta_fields}
use Rattle.core_rules.proofs.Heads.Same.{same_replaced}
use Rattle.core_rules.proofs.Conversion.Names.{same_term}
use Rattle.core_rules.proofs.Run.Records.{argument as argument_of_full}

not_below : (xs : List ℕ) (q : Verdict) → q ≢ Yes → Yes ≡ below xs q → ⊥
not_below xs Yes n e = n refl
not_below xs (No t u ys) n e = cc
not_below xs OutOfFuel n e = cc
not_below xs OutOfDepth n e = cc
not_below xs (WaitsFor m) n e = cc

if_yes : {A : Type 0} (b : Bool) (x y : A) (P : A → Type 0) → (P y → ⊥) → P (cond b x y) → (b ≡ true) × P x
if_yes true x y P n p = (refl, p)
if_yes false x y P n p = absurd (n p)

with_part_some : (p : Part) (o : Option (List Part)) (ps : List Part) → with_part p o ≡ Some ps → (qs : List Part) × (o ≡ Some qs) × (p ∷ qs ≡ ps)
with_part_some p None ps e = absurd cc
with_part_some p (Some qs) ps e = (qs, refl, one_some e)

-- the last projection stands where it was cut
last_field_is : (es : List Elim) (c : Cut) → last_field es ≡ Some c → es ≡ c.before ++ Field c.field ∷ c.after
last_field_is [] c e = absurd cc
last_field_is (e ∷ es) c h = by_rest e (last_field es) (λ d k. last_field_is es d k) refl h
  where
    by_rest : (e : Elim) (o : Option Cut) → ((d : Cut) → last_field es ≡ Some d → es ≡ d.before ++ Field d.field ∷ d.after) → last_field es ≡ o → cut_more e es o ≡ Some c → e ∷ es ≡ c.before ++ Field c.field ∷ c.after
    by_rest e (Some d) r k h = transport (λ x. e ∷ es ≡ x.before ++ Field x.field ∷ x.after) (one_some h) (ap (λ l. e ∷ l) (r d k))
    by_rest (Field f) None r k h = transport (λ x. Field f ∷ es ≡ x.before ++ Field x.field ∷ x.after) (one_some h) refl
    by_rest (Arg b u) None r k h = absurd cc

elims-append : (h : Term) (es ds : List Elim) → elims h (es ++ ds) ≡ elims (elims h es) ds
elims-append h [] ds = refl
elims-append h (Arg b u ∷ es) ds = elims-append (App b h u) es ds
elims-append h (Field f ∷ es) ds = elims-append (Proj f h) es ds

elims_cut : (h : Term) (es : List Elim) (c : Cut) → last_field es ≡ Some c → elims h es ≡ elims (Proj c.field (elims h c.before)) c.after
elims_cut h es c e = ap (elims h) (last_field_is es c e) ∙ elims-append h c.before (Field c.field ∷ c.after)

-- a form that is a lambda
lambda_is : (h : Term) (es : List Elim) (l : Lambda) → lambda h es ≡ Some l → (a : Term) × (elims h es ≡ Lam l.flag l.name a l.body)
lambda_is (Lam b x a t) [] l e = (a, ap (λ l. Lam l.flag l.name a l.body) (one_some e))
lambda_is (Lam b x a t) (d ∷ es) l e = absurd cc
lambda_is (Var i) es l e = absurd cc
lambda_is (Sort n) es l e = absurd cc
lambda_is (Pi b x a t) es l e = absurd cc
lambda_is (App b t u) es l e = absurd cc
lambda_is (Def f) es l e = absurd cc
lambda_is (Fam d) es l e = absurd cc
lambda_is (Con k ps) es l e = absurd cc
lambda_is (Proj f t) es l e = absurd cc
lambda_is (Meta m ts) es l e = absurd cc

fitting_length : (c : Telescope Term) (es : List Elim) (us : List Term) → fitting c es ≡ Some us → length us ≡ length c
fitting_length [] [] us e = ap length (sym (one_some e))
fitting_length [] (d ∷ es) us e = absurd cc
fitting_length (x ∷ c) [] us e = absurd cc
fitting_length (x ∷ c) (Field f ∷ es) us e = absurd cc
fitting_length (x ∷ c) (Arg b u ∷ es) us e = by_rest (fitting c es) (λ vs k. fitting_length c es vs k) e
  where
    by_rest : (o : Option (List Term)) → ((vs : List Term) → o ≡ Some vs → length vs ≡ length c) → option_map (λ us. u ∷ us) o ≡ Some us → length us ≡ suc (length c)
    by_rest None r e = absurd cc
    by_rest (Some vs) r e = ap length (sym (one_some e)) ∙ ap suc (r vs refl)

-- a constructor at arguments has these, whatever their flags are
fitting_args : (k : ℕ) (ps : Terms) (t : Term) (vs : List Term) (c : Telescope Term) (es : List Elim) (us : List Term) → fitting c es ≡ Some us → con_app t [] ≡ Some (record { con = k; params = ps; args = vs })
    → con_app (elims t es) [] ≡ Some (record { con = k; params = ps; args = vs ++ us })
fitting_args k ps t vs [] [] us e a = a ∙ ap (λ l. Some (record { con = k; params = ps; args = l })) (sym (append-nil vs) ∙ ap (λ l. vs ++ l) (one_some e))
fitting_args k ps t vs [] (d ∷ es) us e a = absurd cc
fitting_args k ps t vs (x ∷ c) [] us e a = absurd cc
fitting_args k ps t vs (x ∷ c) (Field f ∷ es) us e a = absurd cc
fitting_args k ps t vs (x ∷ c) (Arg b u ∷ es) us e a =
    by_rest (fitting c es) (λ ws i. fitting_args k ps (App b t u) (vs ++ u ∷ []) c es ws i (con_app-more t [] (u ∷ []) (record { con = k; params = ps; args = vs }) a)) e
  where
    by_rest : (o : Option (List Term)) → ((ws : List Term) → o ≡ Some ws → con_app (elims (App b t u) es) [] ≡ Some (record { con = k; params = ps; args = (vs ++ u ∷ []) ++ ws })) → option_map (λ us. u ∷ us) o ≡ Some us
        → con_app (elims (App b t u) es) [] ≡ Some (record { con = k; params = ps; args = vs ++ us })
    by_rest None r e = absurd cc
    by_rest (Some ws) r e = r ws refl ∙ ap (λ l. Some (record { con = k; params = ps; args = l })) (append_assoc vs (u ∷ []) ws ∙ ap (λ l. vs ++ l) (one_some e))

each_field : (g : Signature Term) (t : Term) (fs : List ℕ) (us : List Term) → length fs ≡ length us → ((i k : ℕ) (u : Term) → slice_get fs i ≡ Some k → slice_get us i ≡ Some u → Conv g (Proj k t) u) → ConvEach g (map (λ k. Proj k t) fs) us
each_field g t [] [] n h = E.none
each_field g t [] (u ∷ us) n h = absurd cc
each_field g t (k ∷ fs) [] n h = absurd cc
each_field g t (k ∷ fs) (u ∷ us) n h =
    let later : (i j : ℕ) (v : Term) → slice_get fs i ≡ Some j → slice_get us i ≡ Some v → Conv g (Proj j t) v = λ i j v a b. h (suc i) j v a b in
    let as_many : length fs ≡ length us = cc n in
    E.one (h 0 k u refl refl) (each_field g t fs us as_many later)

each_then : {g : Signature Term} (us vs ws : List Term) → ConvEach g us vs → ConvEach g vs ws → ConvEach g us ws
each_then us vs ws E.none d = d
each_then us vs ws (E.one {u = v} {us = xs} c cs) (E.one d ds) = E.one (C.then c d) (each_then _ xs _ cs ds)

-- the constructor of a record that has eta, at as many arguments of any flags as there are fields: its projections are these
each_projection : (g : Signature Term) (k d : ℕ) (is : IsEtaCon g k d) (ps : Terms) (es : List Elim) (us : List Term) → length is.con.args ≡ length (fields_of g d) → fitting is.con.args es ≡ Some us → ConvEach g (projections g d (elims (Con k ps) es)) us
each_projection g k d is ps es us n e =
    let l = fitting_length is.con.args es us e in
    let s : ConApp = record { con = k; params = ps; args = us } in
    let many : takes g k (length us) ≡ true = ap (λ o. option_map_or (λ c. eqb (length c.args) (length us)) o false) is.is_con ∙ (ap (λ m. eqb m (length us)) (sym l) ∙ eqb_same (length us)) in
    let full = full_con_by g (elims (Con k ps) es) s (fitting_args k ps (Con k ps) [] is.con.args es us e refl) many in
    each_field g (elims (Con k ps) es) (fields_of g d) us (sym (l ∙ n)) (λ i j u a b. C.field (argument_of_full g d (elims (Con k ps) es) s full (record { place = is.place; as_many = sym (l ∙ n) }) i j u a b))

-- a form that is a value of a record that has eta
record IsValue (g : Signature Term) (h : Term) (es : List Elim) (v : RecordValue) : Type 0 where
  con : ℕ
  params : Terms
  is : IsEtaCon g con v.fam
  head : h ≡ Con con params
  spine : fitting is.con.args es ≡ Some v.values

record_value_is : (g : Signature Term) (k : ℕ) (ps : Terms) (es : List Elim) (v : RecordValue) → record_value g k es ≡ Some v → IsValue g (Con k ps) es v
record_value_is g k ps es v = by_place (con_place g k) refl
  where
    at_values : (p : ℕ × ℕ) → con_place g k ≡ Some p → (d : FamDecl Term) → fam_decl g p.0 ≡ Some d → (c : ConDecl Term) → con_decl g k ≡ Some c → d.eta ≡ true → eqb p.1 0 ≡ true
        → (o : Option (List Term)) → fitting c.args es ≡ o → ◌≡◌ {A = Option RecordValue} (option_map (λ us. record { fam = p.0; values = us }) o) (Some v) → IsValue g (Con k ps) es v
    at_values p a d b c x y z None i e = absurd cc
    at_values p a d b c x y z (Some us) i e =
        let q : con_place g k ≡ Some (p.0, 0) = a ∙ ap (λ j. Some (p.0, j)) (eqb-true p.1 0 z) in
        transport (λ v. IsValue g (Con k ps) es v) (one_some e)
        (record { con = k; params = ps; is = record { decl = d; con = c; is_decl = b; is_con = x; place = q; eta = y }; head = refl; spine = i })

    by_con : (p : ℕ × ℕ) → con_place g k ≡ Some p → (d : FamDecl Term) → fam_decl g p.0 ≡ Some d → (o : Option (ConDecl Term)) → con_decl g k ≡ o
        → option_and_then (λ c. cond (d.eta && eqb p.1 0) (option_map (λ us. record { fam = p.0; values = us }) (fitting c.args es)) None) o ≡ Some v → IsValue g (Con k ps) es v
    by_con p a d b None x e = absurd cc
    by_con p a d b (Some c) x e =
        let h = cond_some (d.eta && eqb p.1 0) (option_map (λ us. record { fam = p.0; values = us }) (fitting c.args es)) v e in
        let t = and_true d.eta (eqb p.1 0) h.0 in
        at_values p a d b c x t.0 t.1 (fitting c.args es) refl h.1

    by_family : (p : ℕ × ℕ) → con_place g k ≡ Some p → (o : Option (FamDecl Term)) → fam_decl g p.0 ≡ o
        → option_and_then (λ d. option_and_then (λ c. cond (d.eta && eqb p.1 0) (option_map (λ us. record { fam = p.0; values = us }) (fitting c.args es)) None) (con_decl g k)) o ≡ Some v → IsValue g (Con k ps) es v
    by_family p a None b e = absurd cc
    by_family p a (Some d) b e = by_con p a d b (con_decl g k) refl e

    by_place : (o : Option (ℕ × ℕ)) → con_place g k ≡ o
        → option_and_then (λ p. option_and_then (λ d. option_and_then (λ c. cond (d.eta && eqb p.1 0) (option_map (λ us. record { fam = p.0; values = us }) (fitting c.args es)) None) (con_decl g k)) (fam_decl g p.0)) o ≡ Some v → IsValue g (Con k ps) es v
    by_place None a e = absurd cc
    by_place (Some p) a e = by_family p a (fam_decl g p.0) refl e

con_kind_is : (o : Option RecordValue) (v : RecordValue) → con_kind o ≡ Value v → o ≡ Some v
con_kind_is None v e = absurd cc
con_kind_is (Some w) v e = cc

kind_is : (g : Signature Term) (h : Term) (es : List Elim) (v : RecordValue) → kind g h es ≡ Value v → IsValue g h es v
kind_is g (Con k ps) es v e = record_value_is g k ps es v (con_kind_is (record_value g k es) v e)
kind_is g (Var i) es v e = absurd cc
kind_is g (Sort n) es v e = absurd cc
kind_is g (Pi b x a t) es v e = absurd cc
kind_is g (Lam b x a t) es v e = absurd cc
kind_is g (App b t u) es v e = absurd cc
kind_is g (Def f) es v e = absurd cc
kind_is g (Fam d) es v e = absurd cc
kind_is g (Proj f t) es v e = absurd cc
kind_is g (Meta m ts) es v e = absurd cc

-- the comparison V promises conversion with what f solves replaced
record Implies (g : Signature Term) (f : Solutions) (V : Term → Term → Verdict → Type 0) : Type 0 where
  by : (t u : Term) → V t u Yes → Conv (image f g) (replace f t) (replace f u)

module _ (g : Signature Term) (f : Solutions) where
  -- each part is convertible
  abbrev Each : List Part → Type 0
  Each [] = Unit {0}
  Each (Pair xs t u ∷ ps) = Conv (image f g) (replace f t) (replace f u) × Each ps

  argument_parts_all : (es ds : List Elim) (ps : List Part) → argument_parts es ds ≡ Some ps → Each ps → ConvElims (image f g) (replace_elims f es) (replace_elims f ds)
  argument_parts_all [] [] ps e h = E.ends
  argument_parts_all (Arg b u ∷ es) (Arg c v ∷ ds) ps e h =
      let x = cond_some (same_flag b c) (with_part (Pair [] u v) (argument_parts es ds)) ps e in
      let w = with_part_some (Pair [] u v) (argument_parts es ds) ps x.1 in
      let h' = transport Each (sym w.2) h in
      transport (λ c. ConvElims (image f g) (Arg b (replace f u) ∷ replace_elims f es) (Arg c (replace f v) ∷ replace_elims f ds)) (same_flag-true b c x.0)
      (E.argument h'.0 (argument_parts_all es ds w.0 w.1 h'.1))
  argument_parts_all [] (d ∷ ds) ps e h = absurd cc
  argument_parts_all (Arg b u ∷ es) [] ps e h = absurd cc
  argument_parts_all (Arg b u ∷ es) (Field i ∷ ds) ps e h = absurd cc
  argument_parts_all (Field i ∷ es) ds ps e h = absurd cc

  term_parts_all : (us vs : List Term) (ps : List Part) → term_parts us vs ≡ Some ps → Each ps → ConvEach (image f g) (map (replace f) us) (map (replace f) vs)
  term_parts_all [] [] ps e h = E.none
  term_parts_all (u ∷ us) (v ∷ vs) ps e h =
      let w = with_part_some (Pair [] u v) (term_parts us vs) ps e in
      let h' = transport Each (sym w.2) h in
      E.one h'.0 (term_parts_all us vs w.0 w.1 h'.1)
  term_parts_all [] (v ∷ vs) ps e h = absurd cc
  term_parts_all (u ∷ us) [] ps e h = absurd cc

  projections_image : (d : ℕ) (t : Term) → map (replace f) (projections g d t) ≡ projections (image f g) d (replace f t)
  projections_image d t = map-projections f g d t ∙ ap (map (λ i. Proj i (replace f t))) (sym (fields_of-map (replace f) g d))

  -- a value of a record that has eta, each field of which is convertible to that of t
  value_converts : FamiliesHaveShape g → (h : Term) (es : List Elim) (v : RecordValue) (t : Term) → IsValue g h es v → ConvEach (image f g) (map (replace f) v.values) (map (replace f) (projections g v.fam t)) → Conv (image f g) (replace f (elims h es)) (replace f t)
  value_converts shapes h es v t i c =
      let c' : ConvEach (image f g) (map (replace f) v.values) (projections (image f g) v.fam (replace f t)) = transport (ConvEach (image f g) (map (replace f) v.values)) (projections_image v.fam t) c in
      let is = eta_con_image f g i.con v.fam i.is in
      let ps = replace_all f i.params in
      let ds = replace_elims f es in
      let e : replace f (elims h es) ≡ elims (Con i.con ps) ds = ap (λ h. replace f (elims h es)) i.head ∙ replace-elims f (Con i.con i.params) es in
      let n : length is.con.args ≡ length (fields_of (image f g) v.fam) = length-map i.is.con.args (entry_map (replace f)) ∙ (eta_fields g shapes i.con v.fam i.is ∙ ap length (sym (fields_of-map (replace f) g v.fam))) in
      let x : fitting is.con.args ds ≡ Some (map (replace f) v.values) = fitting-image f i.is.con.args es ∙ ap (option_map (map (replace f))) i.spine in
      let p = each_then (projections (image f g) v.fam (elims (Con i.con ps) ds)) (map (replace f) v.values) (projections (image f g) v.fam (replace f t)) (each_projection (image f g) i.con v.fam is ps ds (map (replace f) v.values) n x) c' in
      transport (λ a. Conv (image f g) a (replace f t)) (sym e)
      (C.then (C.eta_record ps is) (C.then (conv-elims_all C.same (elims_args is.con.args (projections (image f g) v.fam (elims (Con i.con ps) ds)) (projections (image f g) v.fam (replace f t)) p)) (C.back (C.eta_record ps is))))

  each_back : {us vs : List Term} → ConvEach (image f g) us vs → ConvEach (image f g) vs us
  each_back E.none = E.none
  each_back (E.one c cs) = E.one (C.back c) (each_back cs)

  module _ (V : Term → Term → Verdict → Type 0) (i : Implies g f V) (shapes : FamiliesHaveShape g) where
    each : (ps : List Part) → InOrder V ps Yes → Each ps
    each [] h = tt
    each (Pair xs t u ∷ ps) (inl h) = (i.by t u h.0, each ps h.1)
    each (Pair xs t u ∷ ps) (inr h) = absurd (not_below xs h.0 h.2 h.3)

    -- the parts, where there are some
    parts_each : (q : Decision) (o : Option (List Part)) → (Decided V q Yes → ⊥) → Decided V (parts_or q o) Yes → (ps : List Part) × (o ≡ Some ps) × Each ps
    parts_each q None n d = absurd (n d)
    parts_each q (Some ps) n d = (ps, refl, each ps d)

    one_each : (j k : ℕ) (q : Decision) (o : Option (List Part)) → (Decided V q Yes → ⊥) → Decided V (if_one j k q o) Yes → (j ≡ k) × (ps : List Part) × (o ≡ Some ps) × Each ps
    one_each j k q o n d =
        let h = if_yes (eqb j k) (parts_or q o) q (λ x. Decided V x Yes) n d in
        let x = parts_each q o n h.1 in
        (eqb-true j k h.0, x.0, x.1, x.2)

    -- two heads that are convertible, with arguments
    at_arguments : (h h' : Term) (es ds : List Elim) (ps : List Part) → Conv (image f g) (replace f h) (replace f h') → argument_parts es ds ≡ Some ps → Each ps → Conv (image f g) (replace f (elims h es)) (replace f (elims h' ds))
    at_arguments h h' es ds ps c e x =
        transport (λ a. Conv (image f g) a (replace f (elims h' ds))) (sym (replace-elims f h es))
        (transport (λ b. Conv (image f g) (elims (replace f h) (replace_elims f es)) b) (sym (replace-elims f h' ds)) (conv-elims_all c (argument_parts_all es ds ps e x)))

    one_head : (K : ℕ → Term) (q : Decision) (j k : ℕ) (es ds : List Elim) → (Decided V q Yes → ⊥) → Decided V (if_one j k q (argument_parts es ds)) Yes → Conv (image f g) (replace f (elims (K j) es)) (replace f (elims (K k) ds))
    one_head K q j k es ds n d =
        let x = one_each j k q (argument_parts es ds) n d in
        at_arguments (K j) (K k) es ds x.1 (transport (λ l. Conv (image f g) (replace f (K j)) (replace f (K l))) x.0 C.same) x.2 x.3

    same_heads_convert : (q : Decision) (h : Term) (es : List Elim) (h' : Term) (ds : List Elim) → (Decided V q Yes → ⊥) → Decided V (same_heads q h es h' ds) Yes → Conv (image f g) (replace f (elims h es)) (replace f (elims h' ds))
    same_heads_convert q (Var j) es (Var k) ds n d = one_head Var q j k es ds n d
    same_heads_convert q (Def j) es (Def k) ds n d = one_head Def q j k es ds n d
    same_heads_convert q (Fam j) es (Fam k) ds n d = one_head Fam q j k es ds n d
    same_heads_convert q (Con j ps) es (Con k qs) ds n d =
        let x = one_each j k q (argument_parts es ds) n d in
        at_arguments (Con j ps) (Con k qs) es ds x.1 (transport (λ l. Conv (image f g) (replace f (Con j ps)) (replace f (Con l qs))) x.0 C.con) x.2 x.3
    same_heads_convert q (Sort j) [] (Sort k) [] n d = let x = one_each j k q (Some []) n d in transport (λ l. Conv (image f g) (Sort j) (Sort l)) x.0 C.same
    same_heads_convert q (Pi b x a t) [] (Pi c y a' t') [] n d =
        let h = if_yes (same_flag b c) (Parts (Pair [] a a' ∷ Pair (x ∷ []) t t' ∷ [])) q (λ x. Decided V x Yes) n d in
        let p = each (Pair [] a a' ∷ Pair (x ∷ []) t t' ∷ []) h.1 in
        transport (λ c. Conv (image f g) (replace f (Pi b x a t)) (replace f (Pi c y a' t'))) (same_flag-true b c h.0) (C.pi p.0 p.1.0)
    same_heads_convert q _ _ _ _ n d = absurd (n d)

    by_field_converts : (q : Decision) (h : Term) (es : List Elim) (h' : Term) (ds : List Elim) (o p : Option Cut) → last_field es ≡ o → last_field ds ≡ p → (Decided V q Yes → ⊥) → Decided V (by_field q h es h' ds o p) Yes → Conv (image f g) (replace f (elims h es)) (replace f (elims h' ds))
    by_field_converts q h es h' ds None None a b n d = same_heads_convert q h es h' ds n d
    by_field_converts q h es h' ds (Some c) (Some k) a b n d =
        let t = elims h c.before in
        let u = elims h' k.before in
        let x = one_each c.field k.field q (with_part (Pair [] t u) (argument_parts c.after k.after)) n d in
        let w = with_part_some (Pair [] t u) (argument_parts c.after k.after) x.1 x.2 in
        let y = transport Each (sym w.2) x.3 in
        let z : Conv (image f g) (replace f (Proj c.field t)) (replace f (Proj k.field u)) = transport (λ i. Conv (image f g) (Proj c.field (replace f t)) (Proj i (replace f u))) x.0 (C.proj y.0) in
        transport (λ v. Conv (image f g) (replace f v) (replace f (elims h' ds))) (sym (elims_cut h es c a))
        (transport (λ v. Conv (image f g) (replace f (elims (Proj c.field t) c.after)) (replace f v)) (sym (elims_cut h' ds k b))
        (at_arguments (Proj c.field t) (Proj k.field u) c.after k.after w.0 z w.1 y.1))
    by_field_converts q h es h' ds None (Some k) a b n d = absurd (n d)
    by_field_converts q h es h' ds (Some c) None a b n d = absurd (n d)

    by_kind_converts : (q : Decision) (h : Term) (es : List Elim) (h' : Term) (ds : List Elim) (o p : Kind) → kind g h es ≡ o → kind g h' ds ≡ p → (Decided V q Yes → ⊥) → Decided V (by_kind g q h es h' ds o p) Yes → Conv (image f g) (replace f (elims h es)) (replace f (elims h' ds))
    by_kind_converts q h es h' ds (Value v) Neither a b n d =
        let x = parts_each q (term_parts v.values (projections g v.fam (elims h' ds))) n d in
        value_converts shapes h es v (elims h' ds) (kind_is g h es v a) (term_parts_all v.values (projections g v.fam (elims h' ds)) x.0 x.1 x.2)
    by_kind_converts q h es h' ds Neither (Value v) a b n d =
        let x = parts_each q (term_parts (projections g v.fam (elims h es)) v.values) n d in
        C.back (value_converts shapes h' ds v (elims h es) (kind_is g h' ds v b) (each_back (term_parts_all (projections g v.fam (elims h es)) v.values x.0 x.1 x.2)))
    by_kind_converts q h es h' ds (Value v) (Value w) a b n d = by_field_converts q h es h' ds (last_field es) (last_field ds) refl refl n d
    by_kind_converts q h es h' ds (Value v) Constructor a b n d = by_field_converts q h es h' ds (last_field es) (last_field ds) refl refl n d
    by_kind_converts q h es h' ds Constructor p a b n d = by_field_converts q h es h' ds (last_field es) (last_field ds) refl refl n d
    by_kind_converts q h es h' ds Neither Constructor a b n d = by_field_converts q h es h' ds (last_field es) (last_field ds) refl refl n d
    by_kind_converts q h es h' ds Neither Neither a b n d = by_field_converts q h es h' ds (last_field es) (last_field ds) refl refl n d

    -- a lambda and a form applied to a new variable
    expand : (l : Lambda) (a : Term) (h : Term) (es : List Elim) → Conv (image f g) (replace f l.body) (replace f (applied l.flag h es)) → Conv (image f g) (replace f (Lam l.flag l.name a l.body)) (replace f (elims h es))
    expand l a h es c = C.then (C.lam {y = l.name} {s' = replace f a} (transport (λ t. Conv (image f g) (replace f l.body) (App l.flag t (Var 0))) (replace-shift f (elims h es) 0 1) c)) (C.back C.eta)

    by_lambda_converts : (q : Decision) (h : Term) (es : List Elim) (h' : Term) (ds : List Elim) (o p : Option Lambda) → lambda h es ≡ o → lambda h' ds ≡ p → (Decided V q Yes → ⊥) → Decided V (by_lambda g q h es h' ds o p) Yes → Conv (image f g) (replace f (elims h es)) (replace f (elims h' ds))
    by_lambda_converts q h es h' ds (Some l) (Some k) a b n d =
        let x = lambda_is h es l a in
        let y = lambda_is h' ds k b in
        let e = if_yes (same_flag l.flag k.flag) (Parts (Pair (l.name ∷ []) l.body k.body ∷ [])) q (λ x. Decided V x Yes) n d in
        let c = (each (Pair (l.name ∷ []) l.body k.body ∷ []) e.1).0 in
        transport (λ t. Conv (image f g) (replace f t) (replace f (elims h' ds))) (sym x.1)
        (transport (λ t. Conv (image f g) (replace f (Lam l.flag l.name x.0 l.body)) (replace f t)) (sym y.1)
        (transport (λ b. Conv (image f g) (replace f (Lam l.flag l.name x.0 l.body)) (replace f (Lam b k.name y.0 k.body))) (same_flag-true l.flag k.flag e.0) (C.lam c)))
    by_lambda_converts q h es h' ds (Some l) None a b n d =
        let x = lambda_is h es l a in
        transport (λ t. Conv (image f g) (replace f t) (replace f (elims h' ds))) (sym x.1) (expand l x.0 h' ds (each (Pair (l.name ∷ []) l.body (applied l.flag h' ds) ∷ []) d).0)
    by_lambda_converts q h es h' ds None (Some k) a b n d =
        let y = lambda_is h' ds k b in
        transport (λ t. Conv (image f g) (replace f (elims h es)) (replace f t)) (sym y.1) (C.back (expand k y.0 h es (C.back (each (Pair (k.name ∷ []) (applied k.flag h es) k.body ∷ []) d).0)))
    by_lambda_converts q h es h' ds None None a b n d = by_kind_converts q h es h' ds (kind g h es) (kind g h' ds) refl refl n d

    decide_converts : (v w : Answer) (n m : ℕ) → Decided V (decide g (Within v n) (Within w m)) Yes → Conv (image f g) (replace f (shown v)) (replace f (shown w))
    decide_converts (Form h es) (Form h' ds) n m d = by_lambda_converts _ h es h' ds (lambda h es) (lambda h' ds) refl refl (λ x. cc) d
    decide_converts (Form h es) (Blocked j h' ds) n m d = absurd cc
    decide_converts (Blocked j h es) w n m d = absurd cc

    both_convert : (s : Solutions) → IsFull s f → HasFitTrees g → (fuel : ℕ) (t u : Term) (b c : Bounded) → HeadOf g s t fuel b → HeadOf g s u fuel c → Decided V (decide g b c) Yes → Conv (image f g) (replace f t) (replace f u)
    both_convert s x r fuel t u (Within v n) (Within w m) y z d = C.then (heads_convert g s f t [] v n x r y.0) (C.then (decide_converts v w n m d) (C.back (heads_convert g s f u [] w m x r z.0)))
    both_convert s x r fuel t u (Within v n) Out y z d = absurd cc
    both_convert s x r fuel t u Out c y z d = absurd cc

-- a yes of bounded conversion implies conversion
pub yes_converts : (g : Signature Term) (s f : Solutions) (fuel depth : ℕ) (t u : Term) → IsFull s f → FamiliesHaveShape g → HasFitTrees g → ConvOf g s fuel depth t u Yes → Conv (signature_map (replace f) g) (replace f t) (replace f u)
yes_converts g s f fuel zero t u x shapes r d = absurd cc
yes_converts g s f fuel (suc depth) t u x shapes r (inl d) = same_term (image f g) (replace f t) (replace f u) (same_replaced s f x t u d.0)
yes_converts g s f fuel (suc depth) t u x shapes r (inr d) =
    let h = d.1 in
    both_convert g f (ConvOf g s fuel depth) (record { by = λ t u c. yes_converts g s f fuel depth t u x shapes r c }) shapes s x r fuel t u h.left h.right h.is_left h.is_right h.decided
