-- Bounded conversion does not see names.
use Rattle.std.specs.Prelude.{◌≡◌, ◌≢◌, ℕ, ◌+◌, Bool, true, false, ◌&&◌, eqb, cond, List, [], ◌∷◌, length, Option, Some, None, option_map, option_and_then, refl, zero, suc}
use Rattle.std.proofs.Common.{sym, ◌∙◌, subst as transport, inl, inr}
use Rattle.std.proofs.lemmas.List.{length-append}
use Rattle.core_rules.specs.declared.Flag.{Flag}
use Rattle.core_rules.specs.Term.{Term, IsSameTerm}
use Rattle.core_rules.specs.Signature.{Signature, Telescope, FamDecl, ConDecl, con_place, con_decl, fam_decl, fields_of}
use Rattle.core_rules.specs.Elimination.{Elim, Arg, Field}
use Rattle.core_rules.specs.Heads.{Solutions, Answer, Bounded, Within, Out, HeadOf}
use Rattle.core_rules.specs.Bounded.{Verdict, Yes, No, OutOfFuel, OutOfDepth, WaitsFor, Part, Pair, Decision, Now, Parts, same_flag, with_part, argument_parts, term_parts, Cut, cut_more, last_field, Lambda, lambda, applied, fitting, RecordValue, record_value, Kind, Value, Constructor, Neither, con_kind, kind, parts_or, if_one, same_heads, by_field, by_kind, by_lambda, decide, below, InOrder, Decided, full, AreSame, ByHeads, ConvOf}
use Rattle.core_rules.specs.NameLaws.{IsSameVerdict}
use Rattle.core_rules.proofs.Names.Alike as A
use Rattle.core_rules.proofs.Names.Alike.{Alike, EachAlike, SpineAlike, same_of, turned, alike_of, alike-shift, alike-elims, alike-replace}
use Rattle.core_rules.proofs.Pairwise as P
use Rattle.core_rules.proofs.Names.HeadForms as H
use Rattle.core_rules.proofs.Names.HeadForms.{AnswerAlike, heads-alike, projected-alike}

pub data VerdictAlike : Verdict → Verdict → Type 0 where
  yes : VerdictAlike Yes Yes
  no : {t t' u u' : Term} {xs ys : List ℕ} → Alike t t' → Alike u u' → length xs ≡ length ys → VerdictAlike (No t u xs) (No t' u' ys)
  out_of_fuel : VerdictAlike OutOfFuel OutOfFuel
  out_of_depth : VerdictAlike OutOfDepth OutOfDepth
  waits_for : {m : ℕ} → VerdictAlike (WaitsFor m) (WaitsFor m)

data PartsAlike : List Part → List Part → Type 0 where
  no_part : PartsAlike [] []
  a_part : {t t' u u' : Term} {xs ys : List ℕ} {ps qs : List Part} → length xs ≡ length ys → Alike t t' → Alike u u' → PartsAlike ps qs → PartsAlike (Pair xs t u ∷ ps) (Pair ys t' u' ∷ qs)

data FoundParts : Option (List Part) → Option (List Part) → Type 0 where
  none_found : FoundParts None None
  some_found : {ps qs : List Part} → PartsAlike ps qs → FoundParts (Some ps) (Some qs)

data DecisionAlike : Decision → Decision → Type 0 where
  at_once : {p q : Verdict} → VerdictAlike p q → DecisionAlike (Now p) (Now q)
  by_parts : {ps qs : List Part} → PartsAlike ps qs → DecisionAlike (Parts ps) (Parts qs)

data LambdaAlike : Option Lambda → Option Lambda → Type 0 where
  no_lambda : LambdaAlike None None
  a_lambda : {b : Flag} {x y : ℕ} {t u : Term} → Alike t u → LambdaAlike (Some (record { flag = b; name = x; body = t })) (Some (record { flag = b; name = y; body = u }))

data TermsFound : Option (List Term) → Option (List Term) → Type 0 where
  no_terms : TermsFound None None
  some_terms : {us vs : List Term} → EachAlike us vs → TermsFound (Some us) (Some vs)

data ValueAlike : Option RecordValue → Option RecordValue → Type 0 where
  no_value : ValueAlike None None
  a_value : {d : ℕ} {us vs : List Term} → EachAlike us vs → ValueAlike (Some (record { fam = d; values = us })) (Some (record { fam = d; values = vs }))

data KindAlike : Kind → Kind → Type 0 where
  values : {d : ℕ} {us vs : List Term} → EachAlike us vs → KindAlike (Value (record { fam = d; values = us })) (Value (record { fam = d; values = vs }))
  constructors : KindAlike Constructor Constructor
  neither : KindAlike Neither Neither

data CutAlike : Option Cut → Option Cut → Type 0 where
  no_cut : CutAlike None None
  a_cut : {f : ℕ} {es ds es' ds' : List Elim} → SpineAlike es ds → SpineAlike es' ds' → CutAlike (Some (record { before = es; field = f; after = es' })) (Some (record { before = ds; field = f; after = ds' }))

data BoundedAlike : Bounded → Bounded → Type 0 where
  within : {v w : Answer} {n : ℕ} → AnswerAlike v w → BoundedAlike (Within v n) (Within w n)
  out : BoundedAlike Out Out

found_with : {t t' u u' : Term} {o p : Option (List Part)} → Alike t t' → Alike u u' → FoundParts o p → FoundParts (with_part (Pair [] t u) o) (with_part (Pair [] t' u') p)
found_with a b none_found = none_found
found_with a b (some_found h) = some_found (a_part refl a b h)

found_if : (b : Bool) {o p : Option (List Part)} → FoundParts o p → FoundParts (cond b o None) (cond b p None)
found_if true h = h
found_if false h = none_found

argument_parts-alike : {es es' ds ds' : List Elim} → SpineAlike es es' → SpineAlike ds ds' → FoundParts (argument_parts es ds) (argument_parts es' ds')
argument_parts-alike A.none A.none = some_found no_part
argument_parts-alike (A.arg {b = b} a s) (A.arg {b = c} k r) = found_if (same_flag b c) (found_with a k (argument_parts-alike s r))
argument_parts-alike A.none (A.arg k r) = none_found
argument_parts-alike A.none (A.field r) = none_found
argument_parts-alike (A.arg a s) A.none = none_found
argument_parts-alike (A.arg a s) (A.field r) = none_found
argument_parts-alike (A.field s) A.none = none_found
argument_parts-alike (A.field s) (A.arg k r) = none_found
argument_parts-alike (A.field s) (A.field r) = none_found

term_parts-alike : {us us' vs vs' : List Term} → EachAlike us us' → EachAlike vs vs' → FoundParts (term_parts us vs) (term_parts us' vs')
term_parts-alike P.nil P.nil = some_found no_part
term_parts-alike (P.one a h) (P.one b k) = found_with a b (term_parts-alike h k)
term_parts-alike P.nil (P.one b k) = none_found
term_parts-alike (P.one a h) P.nil = none_found

cut_more-alike : {o p : Option Cut} (e e' : Elim) {es ds : List Elim} → SpineAlike (e ∷ []) (e' ∷ []) → SpineAlike es ds → CutAlike o p → CutAlike (cut_more e es o) (cut_more e' ds p)
cut_more-alike (Field f) (Field f') (A.field x) s no_cut = a_cut A.none s
cut_more-alike (Arg b u) (Arg c v) (A.arg a x) s no_cut = no_cut
cut_more-alike (Arg b u) (Field f) x s no_cut = elim x [ ]
cut_more-alike (Field f) (Arg c v) x s no_cut = elim x [ ]
cut_more-alike e e' x s (a_cut before after) = a_cut (longer x before) after
  where
    longer : {e e' : Elim} {es ds : List Elim} → SpineAlike (e ∷ []) (e' ∷ []) → SpineAlike es ds → SpineAlike (e ∷ es) (e' ∷ ds)
    longer (A.arg a x) s = A.arg a s
    longer (A.field x) s = A.field s

last_field-alike : {es ds : List Elim} → SpineAlike es ds → CutAlike (last_field es) (last_field ds)
last_field-alike A.none = no_cut
last_field-alike (A.arg {b = b} {t = t} {u = u} a s) = cut_more-alike (Arg b t) (Arg b u) (A.arg a A.none) s (last_field-alike s)
last_field-alike (A.field {f = f} s) = cut_more-alike (Field f) (Field f) (A.field A.none) s (last_field-alike s)

lambda-alike : {h k : Term} {es ds : List Elim} → Alike h k → SpineAlike es ds → LambdaAlike (lambda h es) (lambda k ds)
lambda-alike (A.lam a t) A.none = a_lambda t
lambda-alike (A.lam a t) (A.arg u s) = no_lambda
lambda-alike (A.lam a t) (A.field s) = no_lambda
lambda-alike A.var s = no_lambda
lambda-alike A.sort s = no_lambda
lambda-alike (A.pi a t) s = no_lambda
lambda-alike (A.app t u) s = no_lambda
lambda-alike A.def s = no_lambda
lambda-alike A.fam s = no_lambda
lambda-alike (A.con ts) s = no_lambda
lambda-alike (A.proj t) s = no_lambda
lambda-alike (A.meta ts) s = no_lambda

applied-alike : {h k : Term} {es ds : List Elim} (b : Flag) → Alike h k → SpineAlike es ds → Alike (applied b h es) (applied b k ds)
applied-alike b a s = A.app (alike-shift 0 1 (alike-elims a s)) A.var

more_terms : {u v : Term} {o p : Option (List Term)} → Alike u v → TermsFound o p → TermsFound (option_map (λ us. u ∷ us) o) (option_map (λ us. v ∷ us) p)
more_terms a no_terms = no_terms
more_terms a (some_terms h) = some_terms (P.one a h)

fitting-alike : {es ds : List Elim} (c : Telescope Term) → SpineAlike es ds → TermsFound (fitting c es) (fitting c ds)
fitting-alike [] A.none = some_terms P.nil
fitting-alike [] (A.arg a s) = no_terms
fitting-alike [] (A.field s) = no_terms
fitting-alike (e ∷ c) A.none = no_terms
fitting-alike (e ∷ c) (A.arg a s) = more_terms a (fitting-alike c s)
fitting-alike (e ∷ c) (A.field s) = no_terms

value_of : {o p : Option (List Term)} (d : ℕ) → TermsFound o p → ValueAlike (option_map (λ us. record { fam = d; values = us }) o) (option_map (λ us. record { fam = d; values = us }) p)
value_of d no_terms = no_value
value_of d (some_terms h) = a_value h

value_if : (b : Bool) {o p : Option RecordValue} → ValueAlike o p → ValueAlike (cond b o None) (cond b p None)
value_if true h = h
value_if false h = no_value

module _ (g : Signature Term) where
  record_value-alike : {es ds : List Elim} (k : ℕ) → SpineAlike es ds → ValueAlike (record_value g k es) (record_value g k ds)
  record_value-alike {es} {ds} k s = by_place (con_place g k)
    where
      by_con : (p : ℕ × ℕ) (d : FamDecl Term) (o : Option (ConDecl Term)) → ValueAlike (option_and_then (λ c. cond (d.eta && eqb p.1 0) (option_map (λ us. record { fam = p.0; values = us }) (fitting c.args es)) None) o)
          (option_and_then (λ c. cond (d.eta && eqb p.1 0) (option_map (λ us. record { fam = p.0; values = us }) (fitting c.args ds)) None) o)
      by_con p d None = no_value
      by_con p d (Some c) = value_if (d.eta && eqb p.1 0) (value_of p.0 (fitting-alike c.args s))

      by_family : (p : ℕ × ℕ) (o : Option (FamDecl Term))
          → ValueAlike (option_and_then (λ d. option_and_then (λ c. cond (d.eta && eqb p.1 0) (option_map (λ us. record { fam = p.0; values = us }) (fitting c.args es)) None) (con_decl g k)) o)
          (option_and_then (λ d. option_and_then (λ c. cond (d.eta && eqb p.1 0) (option_map (λ us. record { fam = p.0; values = us }) (fitting c.args ds)) None) (con_decl g k)) o)
      by_family p None = no_value
      by_family p (Some d) = by_con p d (con_decl g k)

      by_place : (o : Option (ℕ × ℕ))
          → ValueAlike (option_and_then (λ p. option_and_then (λ d. option_and_then (λ c. cond (d.eta && eqb p.1 0) (option_map (λ us. record { fam = p.0; values = us }) (fitting c.args es)) None) (con_decl g k)) (fam_decl g p.0)) o)
          (option_and_then (λ p. option_and_then (λ d. option_and_then (λ c. cond (d.eta && eqb p.1 0) (option_map (λ us. record { fam = p.0; values = us }) (fitting c.args ds)) None) (con_decl g k)) (fam_decl g p.0)) o)
      by_place None = no_value
      by_place (Some p) = by_family p (fam_decl g p.0)

  con_kind-alike : {o p : Option RecordValue} → ValueAlike o p → KindAlike (con_kind o) (con_kind p)
  con_kind-alike no_value = constructors
  con_kind-alike (a_value h) = values h

  kind-alike : {h k : Term} {es ds : List Elim} → Alike h k → SpineAlike es ds → KindAlike (kind g h es) (kind g k ds)
  kind-alike (A.con {k = i} ts) s = con_kind-alike (record_value-alike i s)
  kind-alike A.var s = neither
  kind-alike A.sort s = neither
  kind-alike (A.pi a t) s = neither
  kind-alike (A.lam a t) s = neither
  kind-alike (A.app t u) s = neither
  kind-alike A.def s = neither
  kind-alike A.fam s = neither
  kind-alike (A.proj t) s = neither
  kind-alike (A.meta ts) s = neither

  parts_or-alike : {p q : Decision} {o l : Option (List Part)} → DecisionAlike p q → FoundParts o l → DecisionAlike (parts_or p o) (parts_or q l)
  parts_or-alike e none_found = e
  parts_or-alike e (some_found h) = by_parts h

  decision_if : (b : Bool) {p q p' q' : Decision} → DecisionAlike p q → DecisionAlike p' q' → DecisionAlike (cond b p p') (cond b q q')
  decision_if true h k = h
  decision_if false h k = k

  if_one-alike : (i j : ℕ) {p q : Decision} {o l : Option (List Part)} → DecisionAlike p q → FoundParts o l → DecisionAlike (if_one i j p o) (if_one i j q l)
  if_one-alike i j e h = decision_if (eqb i j) (parts_or-alike e h) e

  same_heads-alike : {p q : Decision} {h h' k k' : Term} {es es' ds ds' : List Elim} → DecisionAlike p q → Alike h h' → SpineAlike es es' → Alike k k' → SpineAlike ds ds' → DecisionAlike (same_heads p h es k ds) (same_heads q h' es' k' ds')
  same_heads-alike e (A.var {i = i}) s (A.var {i = j}) r = if_one-alike i j e (argument_parts-alike s r)
  same_heads-alike e (A.def {f = i}) s (A.def {f = j}) r = if_one-alike i j e (argument_parts-alike s r)
  same_heads-alike e (A.fam {d = i}) s (A.fam {d = j}) r = if_one-alike i j e (argument_parts-alike s r)
  same_heads-alike e (A.con {k = i} ts) s (A.con {k = j} us) r = if_one-alike i j e (argument_parts-alike s r)
  same_heads-alike e (A.sort {n = i}) A.none (A.sort {n = j}) A.none = if_one-alike i j e (some_found no_part)
  same_heads-alike e (A.pi {b = b} a t) A.none (A.pi {b = c} a' t') A.none = decision_if (same_flag b c) (by_parts (a_part refl a a' (a_part refl t t' no_part))) e
  same_heads-alike e _ _ _ _ = e

  by_field-alike : {p q : Decision} {h h' k k' : Term} {es es' ds ds' : List Elim} {c c' l l' : Option Cut} → DecisionAlike p q → Alike h h' → SpineAlike es es' → Alike k k' → SpineAlike ds ds' → CutAlike c c' → CutAlike l l'
      → DecisionAlike (by_field p h es k ds c l) (by_field q h' es' k' ds' c' l')
  by_field-alike e a s b r no_cut no_cut = same_heads-alike e a s b r
  by_field-alike e a s b r (a_cut {f = i} x y) (a_cut {f = j} z w) = if_one-alike i j e (found_with (alike-elims a x) (alike-elims b z) (argument_parts-alike y w))
  by_field-alike e a s b r no_cut (a_cut z w) = e
  by_field-alike e a s b r (a_cut x y) no_cut = e

  by_kind-alike : {p q : Decision} {h h' k k' : Term} {es es' ds ds' : List Elim} {c c' l l' : Kind} → DecisionAlike p q → Alike h h' → SpineAlike es es' → Alike k k' → SpineAlike ds ds' → KindAlike c c' → KindAlike l l'
      → DecisionAlike (by_kind g p h es k ds c l) (by_kind g q h' es' k' ds' c' l')
  by_kind-alike e a s b r (values {d = d} v) neither = parts_or-alike e (term_parts-alike v (projected-alike (fields_of g d) (alike-elims b r)))
  by_kind-alike e a s b r neither (values {d = d} v) = parts_or-alike e (term_parts-alike (projected-alike (fields_of g d) (alike-elims a s)) v)
  by_kind-alike e a s b r (values v) (values w) = by_field-alike e a s b r (last_field-alike s) (last_field-alike r)
  by_kind-alike e a s b r (values v) constructors = by_field-alike e a s b r (last_field-alike s) (last_field-alike r)
  by_kind-alike e a s b r constructors (values w) = by_field-alike e a s b r (last_field-alike s) (last_field-alike r)
  by_kind-alike e a s b r constructors constructors = by_field-alike e a s b r (last_field-alike s) (last_field-alike r)
  by_kind-alike e a s b r constructors neither = by_field-alike e a s b r (last_field-alike s) (last_field-alike r)
  by_kind-alike e a s b r neither constructors = by_field-alike e a s b r (last_field-alike s) (last_field-alike r)
  by_kind-alike e a s b r neither neither = by_field-alike e a s b r (last_field-alike s) (last_field-alike r)

  by_lambda-alike : {p q : Decision} {h h' k k' : Term} {es es' ds ds' : List Elim} {c c' l l' : Option Lambda} → DecisionAlike p q → Alike h h' → SpineAlike es es' → Alike k k' → SpineAlike ds ds' → LambdaAlike c c' → LambdaAlike l l'
      → DecisionAlike (by_lambda g p h es k ds c l) (by_lambda g q h' es' k' ds' c' l')
  by_lambda-alike e a s b r (a_lambda {b = i} t) (a_lambda {b = j} u) = decision_if (same_flag i j) (by_parts (a_part refl t u no_part)) e
  by_lambda-alike e a s b r (a_lambda {b = i} t) no_lambda = by_parts (a_part refl t (applied-alike i b r) no_part)
  by_lambda-alike e a s b r no_lambda (a_lambda {b = j} u) = by_parts (a_part refl (applied-alike j a s) u no_part)
  by_lambda-alike e a s b r no_lambda no_lambda = by_kind-alike e a s b r (kind-alike a s) (kind-alike b r)

  decide-alike : {v v' w w' : Bounded} → BoundedAlike v v' → BoundedAlike w w' → DecisionAlike (decide g v w) (decide g v' w')
  decide-alike out h = at_once out_of_fuel
  decide-alike (within a) out = at_once out_of_fuel
  decide-alike (within (H.blocked a s)) (within b) = at_once waits_for
  decide-alike (within (H.forms a s)) (within (H.blocked b r)) = at_once waits_for
  decide-alike (within (H.forms a s)) (within (H.forms b r)) = by_lambda-alike (at_once (no (alike-elims a s) (alike-elims b r) refl)) a s b r (lambda-alike a s) (lambda-alike b r)

below-alike : {p q : Verdict} (xs ys : List ℕ) → length xs ≡ length ys → VerdictAlike p q → VerdictAlike (below xs p) (below ys q)
below-alike xs ys e yes = yes
below-alike xs ys e (no {xs = vs} {ys = ws} a b h) = no a b (length-append xs vs ∙ ((λ i. e i + h i) ∙ sym (length-append ys ws)))
below-alike xs ys e out_of_fuel = out_of_fuel
below-alike xs ys e out_of_depth = out_of_depth
below-alike xs ys e waits_for = waits_for

not_yes : {p q : Verdict} → VerdictAlike p q → p ≢ Yes → q ≢ Yes
not_yes yes n e = n refl
not_yes (no a b h) n e = absurd cc
not_yes out_of_fuel n e = absurd cc
not_yes out_of_depth n e = absurd cc
not_yes waits_for n e = absurd cc

is_yes : {p q : Verdict} → VerdictAlike p q → p ≡ Yes → q ≡ Yes
is_yes yes e = refl
is_yes (no a b h) e = absurd cc
is_yes out_of_fuel e = absurd cc
is_yes out_of_depth e = absurd cc
is_yes waits_for e = absurd cc

module _ (g : Signature Term) (s : Solutions) (fuel : ℕ) where
  head_of-alike : {t u : Term} (b : Bounded) → HeadOf g s t fuel b → Alike t u → (c : Bounded) × HeadOf g s u fuel c × BoundedAlike b c
  head_of-alike (Within w n) h a = let x = heads-alike g s h.0 a A.none in (Within x.0 n, (x.1, h.1), within x.2)
  head_of-alike Out h a = (Out, λ w n d. let x = heads-alike g s d (turned a) A.none in h x.0 n x.1, out)

  are_same-alike : {t t' u u' : Term} → Alike t t' → Alike u u' → AreSame s t u → AreSame s t' u'
  are_same-alike a b h =
      let f = full s h.acyclic in
      record { acyclic = h.acyclic; same = sym (same_of (alike-replace f a)) ∙ (h.same ∙ same_of (alike-replace f b)) }

  module _ (V : Term → Term → Verdict → Type 0) (also : (t t' u u' : Term) (q : Verdict) → Alike t t' → Alike u u' → V t u q → (r : Verdict) × V t' u' r × VerdictAlike q r) where
    in_order-alike : {ps qs : List Part} (q : Verdict) → PartsAlike ps qs → InOrder V ps q → (r : Verdict) × InOrder V qs r × VerdictAlike q r
    in_order-alike q no_part h = (Yes, refl, transport (λ q. VerdictAlike q Yes) (sym h) yes)
    in_order-alike q (a_part e a b p) (inl h) =
        let x = also _ _ _ _ Yes a b h.0 in
        let y = in_order-alike q p h.1 in
        (y.0, inl (transport (V _ _) (is_yes x.2 refl) x.1, y.1), y.2)
    in_order-alike q (a_part {xs = xs} {ys = ys} e a b p) (inr h) =
        let x = also _ _ _ _ h.0 a b h.1 in
        (below ys x.0, inr (x.0, x.1, not_yes x.2 h.2, refl), transport (λ q. VerdictAlike q (below ys x.0)) (sym h.3) (below-alike xs ys e x.2))

    decided-alike : {d d' : Decision} (q : Verdict) → DecisionAlike d d' → Decided V d q → (r : Verdict) × Decided V d' r × VerdictAlike q r
    decided-alike q (at_once {q = p} e) h = (p, refl, transport (λ q. VerdictAlike q p) (sym h) e)
    decided-alike q (by_parts p) h = in_order-alike q p h

    by_heads-alike : {t t' u u' : Term} (q : Verdict) → Alike t t' → Alike u u' → ByHeads g s fuel V t u q → (r : Verdict) × ByHeads g s fuel V t' u' r × VerdictAlike q r
    by_heads-alike q a b h =
        let x = head_of-alike h.left h.is_left a in
        let y = head_of-alike h.right h.is_right b in
        let z = decided-alike q (decide-alike g x.2 y.2) h.decided in
        (z.0, record { left = x.0; right = y.0; is_left = x.1; is_right = y.1; decided = z.1 }, z.2)

  pub conv_of-alike : (depth : ℕ) {t t' u u' : Term} {q : Verdict} → Alike t t' → Alike u u' → ConvOf g s fuel depth t u q → (r : Verdict) × ConvOf g s fuel depth t' u' r × VerdictAlike q r
  conv_of-alike zero a b h = (OutOfDepth, refl, transport (λ q. VerdictAlike q OutOfDepth) (sym h) out_of_depth)
  conv_of-alike (suc depth) a b (inl h) = (Yes, inl (are_same-alike a b h.0, refl), transport (λ q. VerdictAlike q Yes) (sym h.1) yes)
  conv_of-alike (suc depth) {q = q} a b (inr h) =
      let x = by_heads-alike (ConvOf g s fuel depth) (λ t t' u u' q k l m. conv_of-alike depth k l m) q a b h.1 in
      (x.0, inr (λ e. h.0 (are_same-alike (turned a) (turned b) e), x.1), x.2)

same_verdict : {p q : Verdict} → VerdictAlike p q → IsSameVerdict p q
same_verdict yes = tt
same_verdict (no a b h) = (same_of a, same_of b, h)
same_verdict out_of_fuel = tt
same_verdict out_of_depth = tt
same_verdict waits_for = refl

pub conv_of-named : (g : Signature Term) (s : Solutions) (fuel depth : ℕ) (t u t' u' : Term) (q : Verdict) → IsSameTerm t t' → IsSameTerm u u' → ConvOf g s fuel depth t u q → (r : Verdict) × ConvOf g s fuel depth t' u' r × IsSameVerdict q r
conv_of-named g s fuel depth t u t' u' q e h k = let x = conv_of-alike g s fuel depth (alike_of t t' e) (alike_of u u' h) k in (x.0, x.1, same_verdict x.2)
