-- Replacing solved metavariables changes no verdict of bounded conversion.
use Rattle.std.specs.Prelude.{◌≡◌, ◌≢◌, ℕ, Bool, true, false, ◌&&◌, eqb, cond, List, [], ◌∷◌, map, refl, Option, Some, None, option_map, option_and_then, zero, suc}
use Rattle.std.proofs.Common.{ap, ap₂, sym, ◌∙◌, subst as transport, inl, inr}
use Rattle.core_rules.specs.declared.Flag.{Flag}
use Rattle.core_rules.specs.Term.{Term, Var, Sort, Pi, Lam, App, Def, Fam, Con, Proj, Meta}
use Rattle.core_rules.specs.Substitution.{shift, replace}
use Rattle.core_rules.specs.Signature.{Telescope, FamDecl, ConDecl, Signature, con_place, con_decl, fam_decl}
use Rattle.core_rules.specs.Mapped.{entry_map, con_map, fam_map}
use Rattle.core_rules.specs.Elimination.{Elim, Arg, Field, elims, projections}
use Rattle.core_rules.specs.InScope.{IsAcyclic}
use Rattle.core_rules.specs.Heads.{Solutions, Form, Blocked, Bounded, Within, Out, HeadOf}
use Rattle.core_rules.specs.Bounded.{Verdict, Yes, No, OutOfFuel, OutOfDepth, WaitsFor, Part, Pair, Decision, Now, Parts, same_flag, with_part, argument_parts, term_parts, Cut, cut_more, last_field, Lambda, lambda, applied, fitting, RecordValue, record_value, Kind, Value, Constructor, Neither, con_kind, kind, parts_or, if_one, same_heads, by_field, by_kind, by_lambda, decide, below, InOrder, Decided, ByHeads, ConvOf}
use Rattle.core_rules.specs.BoundedLaws.{no_solutions, replace_elim, replace_elims, replace_bounded, replace_verdict, IsFull}
use Rattle.core_rules.proofs.Heads.Mapped.{con_place-map, con_decl-map, fam_decl-map, fields_of-map}
use Rattle.core_rules.proofs.Heads.Replace.{replace-shift}
use Rattle.core_rules.proofs.Heads.Replaced.{image, IsAnswer, NoMeta, replace-elims, map-projections, heads_answer, heads_image}
use Rattle.core_rules.proofs.Heads.ReplacedBack.{heads_back}
use Rattle.core_rules.proofs.Heads.Same.{same_image, same_image_back}

-- the steps of the search for a value of a record that has eta
abbrev eta_at : ℕ × ℕ → Bool → Option (List Term) → Option RecordValue
eta_at p eta o = cond (eta && eqb p.1 0) (option_map (λ us. record { fam = p.0; values = us }) o) None

abbrev value_in : Signature Term → ℕ → List Elim → ℕ × ℕ → Option (FamDecl Term) → Option RecordValue
value_in g k es p o = option_and_then (λ d. option_and_then (λ c. eta_at p d.eta (fitting c.args es)) (con_decl g k)) o

module _ (f : Solutions) where
  abbrev part_map : Part → Part
  part_map (Pair xs t u) = Pair xs (replace f t) (replace f u)

  abbrev decision_map : Decision → Decision
  decision_map (Now v) = Now (replace_verdict f v)
  decision_map (Parts ps) = Parts (map part_map ps)

  with_part-image : (p : Part) (o : Option (List Part)) → with_part (part_map p) (option_map (map part_map) o) ≡ option_map (map part_map) (with_part p o)
  with_part-image p None = refl
  with_part-image p (Some ps) = refl

  argument_parts-image : (es ds : List Elim) → argument_parts (replace_elims f es) (replace_elims f ds) ≡ option_map (map part_map) (argument_parts es ds)
  argument_parts-image [] [] = refl
  argument_parts-image [] (d ∷ ds) = refl
  argument_parts-image (Arg b u ∷ es) [] = refl
  argument_parts-image (Arg b u ∷ es) (Field i ∷ ds) = refl
  argument_parts-image (Field i ∷ es) ds = refl
  argument_parts-image (Arg b u ∷ es) (Arg c v ∷ ds) =
      ap (λ o. cond (same_flag b c) (with_part (Pair [] (replace f u) (replace f v)) o) None) (argument_parts-image es ds)
      ∙ (elim (same_flag b c) as (λ o. cond o (with_part (Pair [] (replace f u) (replace f v)) (option_map (map part_map) (argument_parts es ds))) None ≡ option_map (map part_map) (cond o (with_part (Pair [] u v) (argument_parts es ds)) None)) [ true ↦ with_part-image (Pair [] u v) (argument_parts es ds) | false ↦ refl ])

  term_parts-image : (us vs : List Term) → term_parts (map (replace f) us) (map (replace f) vs) ≡ option_map (map part_map) (term_parts us vs)
  term_parts-image [] [] = refl
  term_parts-image [] (v ∷ vs) = refl
  term_parts-image (u ∷ us) [] = refl
  term_parts-image (u ∷ us) (v ∷ vs) = ap (with_part (Pair [] (replace f u) (replace f v))) (term_parts-image us vs) ∙ with_part-image (Pair [] u v) (term_parts us vs)

  abbrev cut_map : Cut → Cut
  cut_map c = record { before = replace_elims f c.before; field = c.field; after = replace_elims f c.after }

  cut_more-image : (e : Elim) (es : List Elim) (o : Option Cut) → cut_more (replace_elim f e) (replace_elims f es) (option_map cut_map o) ≡ option_map cut_map (cut_more e es o)
  cut_more-image (Arg b u) es None = refl
  cut_more-image (Field i) es None = refl
  cut_more-image (Arg b u) es (Some c) = refl
  cut_more-image (Field i) es (Some c) = refl

  last_field-image : (es : List Elim) → last_field (replace_elims f es) ≡ option_map cut_map (last_field es)
  last_field-image [] = refl
  last_field-image (e ∷ es) = ap (cut_more (replace_elim f e) (replace_elims f es)) (last_field-image es) ∙ cut_more-image e es (last_field es)

  abbrev lambda_map : Lambda → Lambda
  lambda_map l = record { flag = l.flag; name = l.name; body = replace f l.body }

  lambda-image : (h : Term) (es : List Elim) → NoMeta h → lambda (replace f h) (replace_elims f es) ≡ option_map lambda_map (lambda h es)
  lambda-image (Meta m ts) es p = absurd p
  lambda-image (Lam b x a t) [] p = refl
  lambda-image (Lam b x a t) (e ∷ es) p = refl
  lambda-image _ es p = refl

  applied-image : (b : Flag) (h : Term) (es : List Elim) → applied b (replace f h) (replace_elims f es) ≡ replace f (applied b h es)
  applied-image b h es = ap (λ t. App b t (Var 0)) (ap (λ t. shift t 0 1) (sym (replace-elims f h es)) ∙ sym (replace-shift f (elims h es) 0 1))

  pub fitting-image : (c : Telescope Term) (es : List Elim) → fitting (map (entry_map (replace f)) c) (replace_elims f es) ≡ option_map (map (replace f)) (fitting c es)
  fitting-image [] [] = refl
  fitting-image [] (d ∷ es) = refl
  fitting-image (x ∷ c) [] = refl
  fitting-image (x ∷ c) (Field i ∷ es) = refl
  fitting-image (x ∷ c) (Arg b u ∷ es) = ap (option_map (λ us. replace f u ∷ us)) (fitting-image c es) ∙ consed (fitting c es)
    where
      consed : (o : Option (List Term)) → option_map (λ us. replace f u ∷ us) (option_map (map (replace f)) o) ≡ option_map (map (replace f)) (option_map (λ us. u ∷ us) o)
      consed None = refl
      consed (Some us) = refl

  parts_or-image : (q : Decision) (o : Option (List Part)) → parts_or (decision_map q) (option_map (map part_map) o) ≡ decision_map (parts_or q o)
  parts_or-image q None = refl
  parts_or-image q (Some ps) = refl

  if_one-image : (i j : ℕ) (q : Decision) (o : Option (List Part)) → if_one i j (decision_map q) (option_map (map part_map) o) ≡ decision_map (if_one i j q o)
  if_one-image i j q o = ap (λ d. cond (eqb i j) d (decision_map q)) (parts_or-image q o) ∙ (elim (eqb i j) as (λ b. cond b (decision_map (parts_or q o)) (decision_map q) ≡ decision_map (cond b (parts_or q o) q)) [ true ↦ refl | false ↦ refl ])

  one-image : (i j : ℕ) (q : Decision) (es ds : List Elim) → if_one i j (decision_map q) (argument_parts (replace_elims f es) (replace_elims f ds)) ≡ decision_map (if_one i j q (argument_parts es ds))
  one-image i j q es ds = ap (if_one i j (decision_map q)) (argument_parts-image es ds) ∙ if_one-image i j q (argument_parts es ds)

  same_heads-image : (q : Decision) (h : Term) (es : List Elim) (h' : Term) (ds : List Elim) → NoMeta h → NoMeta h' → same_heads (decision_map q) (replace f h) (replace_elims f es) (replace f h') (replace_elims f ds) ≡ decision_map (same_heads q h es h' ds)
  same_heads-image q (Meta m ts) es h' ds p r = absurd p
  same_heads-image q h es (Meta m ts) ds p r = absurd r
  same_heads-image q (Var i) es (Var j) ds p r = one-image i j q es ds
  same_heads-image q (Def i) es (Def j) ds p r = one-image i j q es ds
  same_heads-image q (Fam i) es (Fam j) ds p r = one-image i j q es ds
  same_heads-image q (Con i ps) es (Con j qs) ds p r = one-image i j q es ds
  same_heads-image q (Sort i) (e ∷ es) h' ds p r = refl
  same_heads-image q (Pi b x a t) (e ∷ es) h' ds p r = refl
  same_heads-image q (Sort i) [] (Sort j) (d ∷ ds) p r = refl
  same_heads-image q (Pi b x a t) [] (Pi c y a' t') (d ∷ ds) p r = refl
  same_heads-image q (Sort i) [] (Sort j) [] p r = if_one-image i j q (Some [])
  same_heads-image q (Pi b x a t) [] (Pi c y a' t') [] p r =
      elim (same_flag b c) as (λ o. cond o (Parts (map part_map (Pair [] a a' ∷ Pair (x ∷ []) t t' ∷ []))) (decision_map q) ≡ decision_map (cond o (Parts (Pair [] a a' ∷ Pair (x ∷ []) t t' ∷ [])) q)) [ true ↦ refl | false ↦ refl ]
  same_heads-image q _ _ _ _ p r = refl

  by_field-image : (q : Decision) (h : Term) (es : List Elim) (h' : Term) (ds : List Elim) (o k : Option Cut) → NoMeta h → NoMeta h'
      → by_field (decision_map q) (replace f h) (replace_elims f es) (replace f h') (replace_elims f ds) (option_map cut_map o) (option_map cut_map k) ≡ decision_map (by_field q h es h' ds o k)
  by_field-image q h es h' ds None None p r = same_heads-image q h es h' ds p r
  by_field-image q h es h' ds None (Some k) p r = refl
  by_field-image q h es h' ds (Some c) None p r = refl
  by_field-image q h es h' ds (Some c) (Some k) p r =
      ap (if_one c.field k.field (decision_map q))
      (ap₂ with_part (ap₂ (Pair []) (sym (replace-elims f h c.before)) (sym (replace-elims f h' k.before))) (argument_parts-image c.after k.after)
      ∙ with_part-image (Pair [] (elims h c.before) (elims h' k.before)) (argument_parts c.after k.after))
      ∙ if_one-image c.field k.field q (with_part (Pair [] (elims h c.before) (elims h' k.before)) (argument_parts c.after k.after))

  module _ (g : Signature Term) where
    abbrev value_map : RecordValue → RecordValue
    value_map v = record { fam = v.fam; values = map (replace f) v.values }

    abbrev kind_map : Kind → Kind
    kind_map (Value v) = Value (value_map v)
    kind_map Constructor = Constructor
    kind_map Neither = Neither

    valued : (p : ℕ × ℕ) (o : Option (List Term)) → option_map (λ us. record { fam = p.0; values = us }) (option_map (map (replace f)) o) ≡ option_map value_map (option_map (λ us. record { fam = p.0; values = us }) o)
    valued p None = refl
    valued p (Some us) = refl

    con_image : (p : ℕ × ℕ) (eta : Bool) (es : List Elim) (o : Option (ConDecl Term)) → option_and_then (λ c. eta_at p eta (fitting c.args (replace_elims f es))) (option_map (con_map (replace f)) o) ≡ option_map value_map (option_and_then (λ c. eta_at p eta (fitting c.args es)) o)
    con_image p eta es None = refl
    con_image p eta es (Some c) =
        ap (eta_at p eta) (fitting-image c.args es)
        ∙ (elim (eta && eqb p.1 0) as (λ b. cond b (option_map (λ us. record { fam = p.0; values = us }) (option_map (map (replace f)) (fitting c.args es))) None ≡ option_map value_map (cond b (option_map (λ us. record { fam = p.0; values = us }) (fitting c.args es)) None)) [ true ↦ valued p (fitting c.args es) | false ↦ refl ])

    family_image : (k : ℕ) (es : List Elim) (p : ℕ × ℕ) (o : Option (FamDecl Term)) → value_in (image f g) k (replace_elims f es) p (option_map (fam_map (replace f)) o) ≡ option_map value_map (value_in g k es p o)
    family_image k es p None = refl
    family_image k es p (Some d) = ap (option_and_then (λ c. eta_at p d.eta (fitting c.args (replace_elims f es)))) (con_decl-map (replace f) g k) ∙ con_image p d.eta es (con_decl g k)

    place_image : (k : ℕ) (es : List Elim) (o : Option (ℕ × ℕ)) → option_and_then (λ p. value_in (image f g) k (replace_elims f es) p (fam_decl (image f g) p.0)) o ≡ option_map value_map (option_and_then (λ p. value_in g k es p (fam_decl g p.0)) o)
    place_image k es None = refl
    place_image k es (Some p) = ap (value_in (image f g) k (replace_elims f es) p) (fam_decl-map (replace f) g p.0) ∙ family_image k es p (fam_decl g p.0)

    record_value-image : (k : ℕ) (es : List Elim) → record_value (image f g) k (replace_elims f es) ≡ option_map value_map (record_value g k es)
    record_value-image k es = ap (option_and_then (λ p. value_in (image f g) k (replace_elims f es) p (fam_decl (image f g) p.0))) (con_place-map (replace f) g k) ∙ place_image k es (con_place g k)

    con_kind-image : (o : Option RecordValue) → con_kind (option_map value_map o) ≡ kind_map (con_kind o)
    con_kind-image None = refl
    con_kind-image (Some v) = refl

    kind-image : (h : Term) (es : List Elim) → NoMeta h → kind (image f g) (replace f h) (replace_elims f es) ≡ kind_map (kind g h es)
    kind-image (Meta m ts) es p = absurd p
    kind-image (Con k ps) es p = ap con_kind (record_value-image k es) ∙ con_kind-image (record_value g k es)
    kind-image _ es p = refl

    projections-image : (d : ℕ) (t : Term) → projections (image f g) d (replace f t) ≡ map (replace f) (projections g d t)
    projections-image d t = ap (map (λ i. Proj i (replace f t))) (fields_of-map (replace f) g d) ∙ sym (map-projections f g d t)

    spread_projections : (d : ℕ) (h : Term) (es : List Elim) → projections (image f g) d (elims (replace f h) (replace_elims f es)) ≡ map (replace f) (projections g d (elims h es))
    spread_projections d h es = ap (projections (image f g) d) (sym (replace-elims f h es)) ∙ projections-image d (elims h es)

    fields-image : (q : Decision) (h : Term) (es : List Elim) (h' : Term) (ds : List Elim) → NoMeta h → NoMeta h'
        → by_field (decision_map q) (replace f h) (replace_elims f es) (replace f h') (replace_elims f ds) (last_field (replace_elims f es)) (last_field (replace_elims f ds)) ≡ decision_map (by_field q h es h' ds (last_field es) (last_field ds))
    fields-image q h es h' ds p r = ap₂ (by_field (decision_map q) (replace f h) (replace_elims f es) (replace f h') (replace_elims f ds)) (last_field-image es) (last_field-image ds) ∙ by_field-image q h es h' ds (last_field es) (last_field ds) p r

    by_kind-image : (q : Decision) (h : Term) (es : List Elim) (h' : Term) (ds : List Elim) (o k : Kind) → NoMeta h → NoMeta h'
        → by_kind (image f g) (decision_map q) (replace f h) (replace_elims f es) (replace f h') (replace_elims f ds) (kind_map o) (kind_map k) ≡ decision_map (by_kind g q h es h' ds o k)
    by_kind-image q h es h' ds (Value v) Neither p r =
        ap (parts_or (decision_map q)) (ap (term_parts (map (replace f) v.values)) (spread_projections v.fam h' ds) ∙ term_parts-image v.values (projections g v.fam (elims h' ds)))
        ∙ parts_or-image q (term_parts v.values (projections g v.fam (elims h' ds)))
    by_kind-image q h es h' ds Neither (Value v) p r =
        ap (parts_or (decision_map q)) (ap (λ us. term_parts us (map (replace f) v.values)) (spread_projections v.fam h es) ∙ term_parts-image (projections g v.fam (elims h es)) v.values)
        ∙ parts_or-image q (term_parts (projections g v.fam (elims h es)) v.values)
    by_kind-image q h es h' ds (Value v) (Value w) p r = fields-image q h es h' ds p r
    by_kind-image q h es h' ds (Value v) Constructor p r = fields-image q h es h' ds p r
    by_kind-image q h es h' ds Constructor k p r = fields-image q h es h' ds p r
    by_kind-image q h es h' ds Neither Constructor p r = fields-image q h es h' ds p r
    by_kind-image q h es h' ds Neither Neither p r = fields-image q h es h' ds p r

    by_lambda-image : (q : Decision) (h : Term) (es : List Elim) (h' : Term) (ds : List Elim) (o k : Option Lambda) → NoMeta h → NoMeta h'
        → by_lambda (image f g) (decision_map q) (replace f h) (replace_elims f es) (replace f h') (replace_elims f ds) (option_map lambda_map o) (option_map lambda_map k) ≡ decision_map (by_lambda g q h es h' ds o k)
    by_lambda-image q h es h' ds (Some l) (Some k) p r =
        elim (same_flag l.flag k.flag) as (λ o. cond o (Parts (Pair (l.name ∷ []) (replace f l.body) (replace f k.body) ∷ [])) (decision_map q) ≡ decision_map (cond o (Parts (Pair (l.name ∷ []) l.body k.body ∷ [])) q)) [ true ↦ refl | false ↦ refl ]
    by_lambda-image q h es h' ds (Some l) None p r = ap (λ t. Parts (Pair (l.name ∷ []) (replace f l.body) t ∷ [])) (applied-image l.flag h' ds)
    by_lambda-image q h es h' ds None (Some k) p r = ap (λ t. Parts (Pair (k.name ∷ []) t (replace f k.body) ∷ [])) (applied-image k.flag h es)
    by_lambda-image q h es h' ds None None p r = ap₂ (by_kind (image f g) (decision_map q) (replace f h) (replace_elims f es) (replace f h') (replace_elims f ds)) (kind-image h es p) (kind-image h' ds r) ∙ by_kind-image q h es h' ds (kind g h es) (kind g h' ds) p r

    -- the answers' heads are no metavariables
    abbrev AreForms : Bounded → Type 0
    AreForms (Within w n) = IsAnswer w
    AreForms Out = Unit {0}

    decide-image : (b c : Bounded) → AreForms b → AreForms c → decide (image f g) (replace_bounded f b) (replace_bounded f c) ≡ decision_map (decide g b c)
    decide-image Out c p r = refl
    decide-image (Within (Form h es) n) Out p r = refl
    decide-image (Within (Blocked m h es) n) Out p r = refl
    decide-image (Within (Blocked m h es) n) (Within (Form h' ds) k) p r = refl
    decide-image (Within (Blocked m h es) n) (Within (Blocked j h' ds) k) p r = refl
    decide-image (Within (Form h es) n) (Within (Blocked m h' ds) k) p r = refl
    decide-image (Within (Form h es) n) (Within (Form h' ds) k) p r =
        ap₂ (λ t u. by_lambda (image f g) (Now (No t u [])) (replace f h) (replace_elims f es) (replace f h') (replace_elims f ds) (lambda (replace f h) (replace_elims f es)) (lambda (replace f h') (replace_elims f ds))) (sym (replace-elims f h es)) (sym (replace-elims f h' ds))
        ∙ (ap₂ (by_lambda (image f g) (Now (No (replace f (elims h es)) (replace f (elims h' ds)) [])) (replace f h) (replace_elims f es) (replace f h') (replace_elims f ds)) (lambda-image h es p) (lambda-image h' ds r)
        ∙ by_lambda-image (Now (No (elims h es) (elims h' ds) [])) h es h' ds (lambda h es) (lambda h' ds) p r)

  below-image : (xs : List ℕ) (q : Verdict) → below xs (replace_verdict f q) ≡ replace_verdict f (below xs q)
  below-image xs Yes = refl
  below-image xs (No t u ys) = refl
  below-image xs OutOfFuel = refl
  below-image xs OutOfDepth = refl
  below-image xs (WaitsFor m) = refl

  not_yes : (q : Verdict) → q ≢ Yes → replace_verdict f q ≢ Yes
  not_yes Yes n e = n refl
  not_yes (No t u xs) n e = cc
  not_yes OutOfFuel n e = cc
  not_yes OutOfDepth n e = cc
  not_yes (WaitsFor m) n e = cc

  -- W says of images what V says of the terms
  record Maps (V W : Term → Term → Verdict → Type 0) : Type 0 where
    by : (t u : Term) (q : Verdict) → V t u q → W (replace f t) (replace f u) (replace_verdict f q)

  in_order_maps : (V W : Term → Term → Verdict → Type 0) → Maps V W → (ps : List Part) (q : Verdict) → InOrder V ps q → InOrder W (map part_map ps) (replace_verdict f q)
  in_order_maps V W o [] q h = ap (replace_verdict f) h
  in_order_maps V W o (Pair xs t u ∷ ps) q (inl h) = inl (o.by t u Yes h.0, in_order_maps V W o ps q h.1)
  in_order_maps V W o (Pair xs t u ∷ ps) q (inr h) = inr (replace_verdict f h.0, o.by t u h.0 h.1, not_yes h.0 h.2, ap (replace_verdict f) h.3 ∙ sym (below-image xs h.0))

  decided_maps : (V W : Term → Term → Verdict → Type 0) → Maps V W → (D : Decision) (q : Verdict) → Decided V D q → Decided W (decision_map D) (replace_verdict f q)
  decided_maps V W o (Now v) q h = ap (replace_verdict f) h
  decided_maps V W o (Parts ps) q h = in_order_maps V W o ps q h

module _ (g : Signature Term) (s f : Solutions) (x : IsFull s f) (a : IsAcyclic s) where
  -- the bounded head form of the replaced term
  pub head_of_image : (t : Term) (fuel : ℕ) (b : Bounded) → HeadOf g s t fuel b → HeadOf (image f g) no_solutions (replace f t) fuel (replace_bounded f b)
  head_of_image t fuel (Within w n) h = (heads_image f g s x h.0, h.1)
  head_of_image t fuel Out h = λ w n d. let b = heads_back f g s x a d t [] refl refl in h b.answer n b.holds

  forms : (t : Term) (fuel : ℕ) (b : Bounded) → HeadOf g s t fuel b → AreForms f g b
  forms t fuel (Within w n) h = heads_answer h.0
  forms t fuel Out h = tt

  by_heads_image : (fuel : ℕ) (V W : Term → Term → Verdict → Type 0) → Maps f V W → (t u : Term) (q : Verdict) → ByHeads g s fuel V t u q → ByHeads (image f g) no_solutions fuel W (replace f t) (replace f u) (replace_verdict f q)
  by_heads_image fuel V W o t u q h =
      let d = decided_maps f V W o (decide g h.left h.right) q h.decided in
      let e = decide-image f g h.left h.right (forms t fuel h.left h.is_left) (forms u fuel h.right h.is_right) in
      record {
        left = replace_bounded f h.left;
        right = replace_bounded f h.right;
        is_left = head_of_image t fuel h.left h.is_left;
        is_right = head_of_image u fuel h.right h.is_right;
        decided = transport (λ D. Decided W D (replace_verdict f q)) (sym e) d;
      }

  pub conv_of_image : (fuel depth : ℕ) (t u : Term) (q : Verdict) → ConvOf g s fuel depth t u q → ConvOf (image f g) no_solutions fuel depth (replace f t) (replace f u) (replace_verdict f q)
  conv_of_image fuel zero t u q h = ap (replace_verdict f) h
  conv_of_image fuel (suc depth) t u q (inl h) = inl (same_image s f x a t u h.0, ap (replace_verdict f) h.1)
  conv_of_image fuel (suc depth) t u q (inr h) =
      inr (λ k. h.0 (same_image_back s f x a t u k), by_heads_image fuel (ConvOf g s fuel depth) (ConvOf (image f g) no_solutions fuel depth) (record { by = conv_of_image fuel depth }) t u q h.1)
