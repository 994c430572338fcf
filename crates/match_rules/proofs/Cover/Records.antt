-- Where a record's constructor stands for a value, its arguments stand for the value's projections.
use Rattle.std.specs.Prelude.{◌≡◌, ℕ, true, false, eqb, List, [], ◌∷◌, ◌++◌, length, map, slice_get, Option, Some, None, refl, suc}
use Rattle.std.specs.Option.{option_map_or}
use Rattle.std.proofs.Common.{ap, ap₂, sym, ◌∙◌, subst as transport, arith, append-nil, length-append}
use Rattle.core_rules.specs.Term.{Term, Terms, Var, Sort, Pi, Lam, Def, Fam, Con, Proj, Meta}
use Rattle.core_rules.specs.Signature.{Signature, con_place, con_decl, fields_of}
use Rattle.core_rules.specs.Elimination.{Elim, Arg, Field, elims, args, projections}
use Rattle.core_rules.specs.Run.{ConApp, con_app, takes, is_record_con, full_con}
use Rattle.core_rules.specs.Conversion.{IsArgument, IsEtaCon}
use Rattle.core_rules.specs.InScope.{FamiliesHaveShape}
use Rattle.match_rules.specs.Matching.{eta_family}
use Rattle.core_rules.proofs.Run.Records.{record_term, argument, IsRecordTerm}
use Rattle.core_rules.proofs.Heads.OneAnswer.{one_some}
use Rattle.core_rules.proofs.Heads.Sound.{eqb_same, full_con_by}
use Rattle.match_rules.proofs.Cover.Parts.{own_con}
use Rattle.match_rules.proofs.Cover.Comes as K
use Rattle.match_rules.proofs.Cover.Comes.{AreArgs, Peeled, peel, app_of_args, app_past_args}
use Rattle.match_rules.proofs.Cover.Named as N
use Rattle.match_rules.proofs.Cover.Named.{Named, named-refl, named-trans, named_eq, named-elims}
use Rattle.match_rules.proofs.Cover.Like as L
use Rattle.match_rules.proofs.Cover.Like.{Like, LikeElims, LikeEach, each-length}
use Rattle.match_rules.proofs.Cover.Back.{args_are, elims_app, head_of, head_elims, same_con, not_eta, args_like}

no_args : {g : Signature Term} {r : List Term} {ds es : List Elim} {ts : List Term} → AreArgs ds ts → length ts ≡ 0 → LikeElims g r 0 ds es → (ts ≡ []) × (es ≡ [])
no_args K.none n L.ends = (refl, refl)
no_args (K.one a) n l = absurd (omega (arith, n))

same_first : {m n : ℕ} → ◌≡◌ {A = Option (ℕ × ℕ)} (Some (m, 0)) (Some (n, 0)) → m ≡ n
same_first e = ap (λ o. option_map_or (λ p. p.0) o 0) e

each_of : (g : Signature Term) (r : List Term) (v : Term) (fs : List ℕ) {us ws : List Term} → LikeEach g r 0 us ws → length fs ≡ length ws → ((i f : ℕ) (u : Term) → slice_get fs i ≡ Some f → slice_get ws i ≡ Some u → IsArgument g f v u)
    → LikeEach g r 0 us (map (λ f. Proj f v) fs)
each_of g r v [] L.nil n h = L.nil
each_of g r v [] (L.one l m) n h = absurd (omega (arith, n))
each_of g r v (f ∷ fs) L.nil n h = absurd (omega (arith, n))
each_of g r v (f ∷ fs) (L.one {u = u} l m) n h = L.one (L.to_argument [] (h 0 f u refl refl) (named-refl (Proj f v)) l) (each_of g r v fs m (omega (arith, n)) (λ i. h (suc i)))

module _ (g : Signature Term) (r : List Term) (f : ℕ) (w u v : Term) (fs es : List Elim) (i : IsArgument g f w u) (e : Named v (elims (Proj f w) fs)) where
  past : (t : Term) (h : ℕ) → elims t ((fs ++ es) ++ Field h ∷ []) ≡ Proj h (elims (elims t fs) es)
  past t h = elims_app t (fs ++ es) (Field h ∷ []) ∙ ap (Proj h) (elims_app t fs es)

  each_past : (hs : List ℕ) {us : List Term} → LikeEach g r 0 us (map (λ h. Proj h (elims (elims u fs) es)) hs) → LikeEach g r 0 us (map (λ h. Proj h (elims v es)) hs)
  each_past [] L.nil = L.nil
  each_past (h ∷ hs) (L.one {t = t} l m) =
      L.one (L.to_argument ((fs ++ es) ++ Field h ∷ []) i (named-trans (N.proj (named-elims es e)) (named_eq (sym (past (Proj f w) h)))) (transport (Like g r 0 t) (sym (past u h)) l)) (each_past hs m)

module _ (g : Signature Term) (shapes : FamiliesHaveShape g) (r : List Term) (k d : ℕ) (ps : Terms) (is : IsEtaCon g k d) (us : List Term) (len : length us ≡ length is.con.args) where
  abbrev whole : Term
  whole = elims (Con k ps) (args is.con.args us)

  abbrev all : ConApp
  all = record { con = k; params = ps; args = us }

  whole_app : con_app whole [] ≡ Some all
  whole_app = app_of_args (Con k ps) (args_are is.con.args us len)

  head_is : (t : Term) (ds : List Elim) → elims t ds ≡ whole → head_of t ≡ Con k ps
  head_is t ds e = sym (head_elims t ds) ∙ (ap head_of e ∙ head_elims (Con k ps) (args is.con.args us))

  peeled : (t : Term) (ds : List Elim) → elims t ds ≡ whole → Peeled t ds all
  peeled t ds e = peel t ds all (ap (λ t. con_app t []) e ∙ whole_app)

  takes_all : takes g k (length us) ≡ true
  takes_all = ap (λ o. option_map_or (λ c. eqb (length c.args) (length us)) o false) is.is_con ∙ (ap (λ n. eqb (length is.con.args) n) len ∙ eqb_same (length is.con.args))

  by_con : (j : ℕ) (ps' qs : Terms) (ds es : List Elim) → LikeElims g r 0 ds es → elims (Con j ps') ds ≡ whole → LikeEach g r 0 us (projections g d (elims (Con j qs) es))
  by_con j ps' qs ds es l e =
      let x = peeled (Con j ps') ds e in
      let y = one_some x.app in
      let same : j ≡ k = ap (λ c. c.con) y in
      let terms : x.terms ≡ us = ap (λ c. c.args) y in
      let a = args_like g r x.are l in
      let v = elims (Con j qs) es in
      let s : ConApp = record { con = j; params = qs; args = a.terms } in
      let n : length a.terms ≡ length us = sym (each-length g r a.like) ∙ ap length terms in
      let full : full_con g v ≡ Some s = full_con_by g v s (app_of_args (Con j qs) a.are) (ap₂ (takes g) same n ∙ takes_all) in
      let rec : IsRecordTerm g d s = record_term g shapes d v s full (ap (λ k. is_record_con g k d) same ∙ own_con g shapes k d is) in
      each_of g r v (fields_of g d) (transport (λ ts. LikeEach g r 0 ts a.terms) terms a.like) rec.as_many (λ i f u p q. argument g d v s full rec i f u p q)

  by_record : (j d' : ℕ) (ps' : Terms) (is' : IsEtaCon g j d') (ws : List Term) (t v : Term) (ds es : List Elim) → length ws ≡ length is'.con.args → LikeEach g r 0 ws (projections g d' v) → t ≡ elims (Con j ps') (args is'.con.args ws)
      → LikeElims g r 0 ds es → elims t ds ≡ whole → LikeEach g r 0 us (projections g d (elims v es))
  by_record j d' ps' is' ws t v ds es len' m e' l e =
      let x = peeled t ds e in
      let y = one_some (sym (ap (λ t. con_app t x.terms) e' ∙ app_past_args (Con j ps') x.terms (args_are is'.con.args ws len')) ∙ x.app) in
      let same : j ≡ k = ap (λ c. c.con) y in
      let terms : ws ++ x.terms ≡ us = ap (λ c. c.args) y in
      let con : is'.con ≡ is.con = one_some (sym is'.is_con ∙ (ap (con_decl g) same ∙ is.is_con)) in
      let c : length is'.con.args ≡ length is.con.args = ap (λ c. length c.args) con in
      let a : length (ws ++ x.terms) ≡ length us = ap length terms in
      let b = length-append ws x.terms in
      let none : length x.terms ≡ 0 = omega (arith, len, len', a, b, c) in
      let n = no_args x.are none l in
      let w : ws ≡ us = sym (append-nil ws) ∙ (ap (λ ts. ws ++ ts) (sym n.0) ∙ terms) in
      let o : d' ≡ d = same_first (sym is'.place ∙ (ap (con_place g) same ∙ is.place)) in
      transport (λ es. LikeEach g r 0 us (projections g d (elims v es))) (sym n.1)
      (transport (λ ws. LikeEach g r 0 ws (projections g d v)) w (transport (λ d. LikeEach g r 0 ws (projections g d v)) o m))

  pub record_parts : {t v : Term} (ds es : List Elim) → Like g r 0 t v → LikeElims g r 0 ds es → elims t ds ≡ whole → LikeEach g r 0 us (projections g d (elims v es))
  record_parts ds es (L.var {i = i} p) l e = let h : Var i ≡ Con k ps = head_is (Var i) ds e in absurd cc
  record_parts ds es (L.sort {n = n}) l e = let h : Sort n ≡ Con k ps = head_is (Sort n) ds e in absurd cc
  record_parts ds es (L.pi {x = x} {b = b} {a = a} {t = t} m s) l e = let h : Pi b x a t ≡ Con k ps = head_is (Pi b x a t) ds e in absurd cc
  record_parts ds es (L.lam {x = x} {b = b} {a = a} {t = t} m s) l e = let h : Lam b x a t ≡ Con k ps = head_is (Lam b x a t) ds e in absurd cc
  record_parts ds es (L.app {b = b} {u = u} {u' = u'} m s) l e = record_parts (Arg b u ∷ ds) (Arg b u' ∷ es) m (L.argument s l) e
  record_parts ds es (L.def {f = f}) l e = let h : Def f ≡ Con k ps = head_is (Def f) ds e in absurd cc
  record_parts ds es (L.fam {f = f}) l e = let h : Fam f ≡ Con k ps = head_is (Fam f) ds e in absurd cc
  record_parts ds es (L.con {k = j} {ps = ps'} {qs = qs}) l e = by_con j ps' qs ds es l e
  record_parts ds es (L.proj {f = f} {t = t} m) l e = let x = peeled (Proj f t) ds e in let h : None ≡ Some all = x.app in absurd cc
  record_parts ds es (L.meta {m = m} {ts = ts} s) l e = let h : Meta m ts ≡ Con k ps = head_is (Meta m ts) ds e in absurd cc
  record_parts ds es (L.to_con {k = j} {t = t} {ds = hs} ps' p c m e') l e =
      let same : j ≡ k = same_con (sym (head_elims (Con j ps') hs) ∙ (sym (ap head_of e') ∙ head_is t ds e)) in
      absurd (not_eta g k d is (transport (λ k. eta_family g k ≡ None) same p))
  record_parts ds es (L.to_record {k = j} {e = d'} {t = t} {v = v} {ws = ws} ps' is' len' m e') l e = by_record j d' ps' is' ws t v ds es len' m e' l e
  record_parts ds es (L.to_argument {f = f} {v = v} {u = u} {w = w} fs i e' m) l e = each_past g r f w u v fs es i e' (fields_of g d) (record_parts ds es m l e)
