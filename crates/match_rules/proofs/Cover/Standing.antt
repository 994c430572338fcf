-- What matching on the tree's left side says of the eliminations that stand for it.
use Rattle.std.specs.Prelude.{◌≡◌, ℕ, List, [], ◌∷◌, ◌++◌, map, Option, Some, None, refl}
use Rattle.std.proofs.Common.{ap₂, sym, subst, append-nil}
use Rattle.core_rules.specs.declared.Flag.{Flag}
use Rattle.core_rules.specs.Term.{Term, Terms, Var, Con, Proj}
use Rattle.core_rules.specs.Substitution.{value_at}
use Rattle.core_rules.specs.Signature.{Signature, Tree, tree_of, fields_of}
use Rattle.core_rules.specs.Elimination.{Elim, Arg, Field, projections}
use Rattle.core_rules.specs.Heads.{Form}
use Rattle.core_rules.specs.InScope.{FamiliesHaveShape}
use Rattle.match_rules.specs.Matching as M
use Rattle.match_rules.specs.Matching.{Shape, OfCon, OfRecord, OfField, Shapes, NoShape, AndShape, Bound, binds, HasHead, as_args, Matches, Front, Clashes, Apart}
use Rattle.match_rules.specs.Covering as V
use Rattle.match_rules.specs.Covering.{Verdict, Yes, No, At, RecordAt, Stop, whole, join, Looks, LooksAll}
use Rattle.core_rules.proofs.Heads.OneAnswer.{heads_one}
use Rattle.match_rules.proofs.Cover.Like as L
use Rattle.match_rules.proofs.Cover.Like.{Like, LikeElims, LikeEach}
use Rattle.match_rules.proofs.Cover.Back.{PlainSplits, back, like_var}
use Rattle.match_rules.proofs.Cover.Records.{record_parts}

pub record HasCon (g : Signature Term) (v : Term) : Type 0 where
  pub con : ℕ
  pub elims : List Elim
  pub head : HasHead g v con elims

module _ (g : Signature Term) where
  form_con : {j k : ℕ} {ps qs : Terms} {es ds : List Elim} → Form (Con j ps) es ≡ Form (Con k qs) ds → (j ≡ k) × (es ≡ ds)
  form_con e = (cc e, cc e)

  pub one_head : {v : Term} {j k : ℕ} {es ds : List Elim} → HasHead g v j es → HasHead g v k ds → (j ≡ k) × (es ≡ ds)
  one_head h i = form_con (heads_one h.heads i.heads).0

  -- the eliminations stand for the left side in the environment r
  pub data Stands (r : List Term) : List Elim → List Elim → Type 0 where
    none : Stands r [] []
    arg : {b c : Flag} {t v : Term} {ls es : List Elim} → Like g r 0 t v → Stands r ls es → Stands r (Arg b t ∷ ls) (Arg c v ∷ es)
    field : {f : ℕ} {ls es : List Elim} → Stands r ls es → Stands r (Field f ∷ ls) (Field f ∷ es)

  pub data StandsFor (r : List Term) : Bound → Bound → Type 0 where
    none : StandsFor r [] []
    one : {x : ℕ} {t v : Term} {σ τ : Bound} → Like g r 0 t v → StandsFor r σ τ → StandsFor r ((x, t) ∷ σ) ((x, v) ∷ τ)

  for_append : {r : List Term} {σ σ' τ τ' : Bound} → StandsFor r σ τ → StandsFor r σ' τ' → StandsFor r (σ ++ σ') (τ ++ τ')
  for_append none q = q
  for_append (one s p) q = one s (for_append p q)

  stands_elims : {r : List Term} {ls vs : List Elim} → LikeElims g r 0 ls vs → Stands r ls vs
  stands_elims L.ends = none
  stands_elims (L.argument e es) = arg e (stands_elims es)
  stands_elims (L.projection es) = field (stands_elims es)

  stands_args : {r us vs : List Term} → LikeEach g r 0 us vs → Stands r (as_args us) (as_args vs)
  stands_args L.nil = none
  stands_args (L.one e es) = arg e (stands_args es)

  like_projections : {r : List Term} {t v : Term} (fs : List ℕ) → Like g r 0 t v → LikeEach g r 0 (map (λ f. Proj f t) fs) (map (λ f. Proj f v) fs)
  like_projections [] e = L.nil
  like_projections (f ∷ fs) e = L.one (L.proj e) (like_projections fs e)

  stands_binds : {r : List Term} {v : Term} (t : Term) (o : Option ℕ) → Like g r 0 t v → StandsFor r (binds o t) (binds o v)
  stands_binds t None e = none
  stands_binds t (Some x) e = one e none

  pub data Decided (p : Shape) (v : Term) : Type 0 where
    yes : {σ : Bound} → Matches g p v σ → Decided p v
    no : Clashes g p v → Decided p v

  pub data DecidedAll (ps : Shapes) (es : List Elim) : Type 0 where
    yes : {σ : Bound} {rest : List Elim} → Front g ps es σ rest → DecidedAll ps es
    no : Apart g ps es → DecidedAll ps es

  -- the first of the patterns take all of the eliminations, and leave rs
  pub data Takes : Shapes → List Elim → Bound → Shapes → Type 0 where
    end : {ps : Shapes} → Takes ps [] [] ps
    arg : {p : Shape} {ps rs : Shapes} {b : Flag} {v : Term} {es : List Elim} {σ τ : Bound} → Matches g p v σ → Takes ps es τ rs → Takes (AndShape p ps) (Arg b v ∷ es) (σ ++ τ) rs
    field : {f h : ℕ} {ps rs : Shapes} {es : List Elim} {τ : Bound} → h ≡ f → Takes ps es τ rs → Takes (AndShape (OfField f) ps) (Field h ∷ es) τ rs

  takes_all : {ps : Shapes} {es : List Elim} {τ : Bound} → Takes ps es τ NoShape → Front g ps es τ []
  takes_all end = M.end
  takes_all (arg m t) = M.arg m (takes_all t)
  takes_all (field q t) = M.field q (takes_all t)

  pub takes_then : {ps : Shapes} {vs : List Elim} {τ : Bound} (es : List Elim) → Takes ps vs τ NoShape → Front g ps (vs ++ es) τ es
  takes_then es end = M.end
  takes_then es (arg m t) = M.arg m (takes_then es t)
  takes_then es (field q t) = M.field q (takes_then es t)

  pub data Means (r : List Term) (p : Shape) (v : Term) : Verdict → Type 0 where
    yes : {σ τ : Bound} {rs : Shapes} → Matches g p v τ → StandsFor r σ τ → Means r p v (Yes σ rs)
    no : Clashes g p v → Means r p v No
    at : {k : ℕ} → (Decided p v → HasCon g (value_at r k)) → Means r p v (At k)
    record_at : {k : ℕ} → Means r p v (RecordAt k)
    stop : Means r p v Stop

  pub data FrontMeans (r : List Term) (ps : Shapes) (vs : List Elim) : Verdict → Type 0 where
    yes : {σ τ : Bound} {rs : Shapes} → Takes ps vs τ rs → StandsFor r σ τ → FrontMeans r ps vs (Yes σ rs)
    no : ((es : List Elim) → Apart g ps (vs ++ es)) → FrontMeans r ps vs No
    at : {k : ℕ} → ((es : List Elim) → DecidedAll ps (vs ++ es) → HasCon g (value_at r k)) → FrontMeans r ps vs (At k)
    record_at : {k : ℕ} → FrontMeans r ps vs (RecordAt k)
    stop : FrontMeans r ps vs Stop

  mutual
    pub matches_one : {p : Shape} {v : Term} {σ τ : Bound} → Matches g p v σ → Matches g p v τ → σ ≡ τ
    matches_one M.any M.any = refl
    matches_one {τ = τ} (M.of_con {ps = ps} is f) (M.of_con is' h) = (front_one f (subst (λ l. Front g ps l τ []) (one_head is' is).1 h)).0
    matches_one (M.of_record f) (M.of_record h) = (front_one f h).0

    pub front_one : {ps : Shapes} {es rest more : List Elim} {σ τ : Bound} → Front g ps es σ rest → Front g ps es τ more → (σ ≡ τ) × (rest ≡ more)
    front_one M.end M.end = (refl, refl)
    front_one (M.arg m f) (M.arg n h) = let q = front_one f h in (ap₂ ◌++◌ (matches_one m n) q.0, q.1)
    front_one (M.field _ f) (M.field _ h) = front_one f h

  mutual
    pub not_both : {p : Shape} {v : Term} {σ : Bound} → Matches g p v σ → Clashes g p v → ⊥
    not_both M.any c = elim c [ ]
    not_both (M.of_con is f) (M.other is' n) = n (one_head is' is).0
    not_both (M.of_con {ps = ps} is f) (M.in_con is' a) = not_both_front f (subst (λ l. Apart g ps l) (one_head is' is).1 a)
    not_both (M.of_record f) (M.in_record a) = not_both_front f a

    pub not_both_front : {ps : Shapes} {es rest : List Elim} {σ : Bound} → Front g ps es σ rest → Apart g ps es → ⊥
    not_both_front M.end a = elim a [ ]
    not_both_front (M.arg m f) (M.here c) = not_both m c
    not_both_front (M.arg m f) (M.later n a) = not_both_front f a
    not_both_front (M.field q f) (M.other_field n) = n q
    not_both_front (M.field _ f) (M.past_field _ a) = not_both_front f a

  inner : {k : ℕ} {ps : Shapes} {v : Term} {es : List Elim} → HasHead g v k es → Decided (OfCon k ps) v → DecidedAll ps es
  inner {ps = ps} is (yes (M.of_con {σ = σ} is' f)) = yes (subst (λ l. Front g ps l σ []) (one_head is' is).1 f)
  inner is (no (M.other is' n)) = absurd (n (one_head is' is).0)
  inner {ps = ps} is (no (M.in_con is' a)) = no (subst (λ l. Apart g ps l) (one_head is' is).1 a)

  inner_record : {d : ℕ} {ps : Shapes} {v : Term} → Decided (OfRecord d ps) v → DecidedAll ps (as_args (projections g d v))
  inner_record (yes (M.of_record f)) = yes f
  inner_record (no (M.in_record a)) = no a

  whole_means : {r : List Term} {p : Shape} {ps : Shapes} {v : Term} {vs : List Elim} (w : Verdict)
      → ((σ : Bound) → Front g ps vs σ [] → Matches g p v σ) → (Apart g ps vs → Clashes g p v) → (Decided p v → DecidedAll ps vs)
      → FrontMeans r ps vs w → Means r p v (whole w)
  whole_means (Yes σ NoShape) y n d (yes {τ = τ} t s) = yes (y τ (takes_all t)) s
  whole_means (Yes σ (AndShape q qs)) y n d (yes t s) = stop
  whole_means {ps = ps} {vs = vs} No y n d (no h) = no (n (subst (λ l. Apart g ps l) (append-nil vs) (h [])))
  whole_means {ps = ps} {vs = vs} (At k) y n d (at h) = at (λ c. h [] (subst (λ l. DecidedAll ps l) (sym (append-nil vs)) (d c)))
  whole_means (RecordAt k) y n d record_at = record_at
  whole_means Stop y n d stop = stop

  first_of_all : {p : Shape} {ps : Shapes} {b : Flag} {v : Term} {es : List Elim} → DecidedAll (AndShape p ps) (Arg b v ∷ es) → Decided p v
  first_of_all (yes (M.arg m f)) = yes m
  first_of_all (no (M.here c)) = no c
  first_of_all (no (M.later m a)) = yes m

  others : {p : Shape} {ps : Shapes} {b : Flag} {v : Term} {es : List Elim} {σ : Bound} → Matches g p v σ → DecidedAll (AndShape p ps) (Arg b v ∷ es) → DecidedAll ps es
  others m (yes (M.arg n f)) = yes f
  others m (no (M.here c)) = absurd (not_both m c)
  others m (no (M.later n a)) = no a

  past_field : {f h : ℕ} {ps : Shapes} {es : List Elim} → h ≡ f → DecidedAll (AndShape (OfField f) ps) (Field h ∷ es) → DecidedAll ps es
  past_field q (yes (M.field _ f)) = yes f
  past_field q (no (M.other_field n)) = absurd (n q)
  past_field q (no (M.past_field _ a)) = no a

  join_means : {r : List Term} {p : Shape} {ps : Shapes} {b : Flag} {v : Term} {vs : List Elim} (V W : Verdict) → Means r p v V → FrontMeans r ps vs W → FrontMeans r (AndShape p ps) (Arg b v ∷ vs) (join V W)
  join_means (Yes σ rs) (Yes τ qs) (yes m s) (yes t ss) = yes (arg m t) (for_append s ss)
  join_means (Yes σ rs) No (yes m s) (no h) = no (λ es. M.later m (h es))
  join_means (Yes σ rs) (At k) (yes m s) (at h) = at (λ es d. h es (others m d))
  join_means (Yes σ rs) (RecordAt k) (yes m s) record_at = record_at
  join_means (Yes σ rs) Stop (yes m s) stop = stop
  join_means No W (no c) f = no (λ es. M.here c)
  join_means (At k) W (at h) f = at (λ es d. h (first_of_all d))
  join_means (RecordAt k) W record_at f = record_at
  join_means Stop W stop f = stop

  field_means : {r : List Term} {f h : ℕ} {ps : Shapes} {vs : List Elim} (W : Verdict) → h ≡ f → FrontMeans r ps vs W → FrontMeans r (AndShape (OfField f) ps) (Field h ∷ vs) W
  field_means (Yes σ rs) q (yes t s) = yes (field q t) s
  field_means No q (no h) = no (λ es. M.past_field q (h es))
  field_means (At k) q (at h) = at (λ es d. h es (past_field q d))
  field_means (RecordAt k) q record_at = record_at
  field_means Stop q stop = stop

  module _ (shapes : FamiliesHaveShape g) (plain : (f : ℕ) (T : Tree Term) → tree_of g f ≡ Some T → PlainSplits g T) where
    var_decides : (r : List Term) (k : ℕ) {c : ℕ} {ps : Shapes} {v : Term} → Like g r 0 (Var k) v → Decided (OfCon c ps) v → HasCon g (value_at r k)
    var_decides r k e (yes (M.of_con is f)) = let x = like_var g r e is in record { con = _; elims = x.0; head = x.1 }
    var_decides r k e (no (M.other is n)) = let x = like_var g r e is in record { con = _; elims = x.0; head = x.1 }
    var_decides r k e (no (M.in_con is a)) = let x = like_var g r e is in record { con = _; elims = x.0; head = x.1 }

    mutual
      pub looks_means : {r : List Term} {p : Shape} {t v : Term} {V : Verdict} → Looks g p t V → Like g r 0 t v → Means r p v V
      looks_means (V.any {o = o} {t = t}) e = yes M.any (stands_binds t o e)
      looks_means {r} {v = v} (V.of_con {k = c} {t = t} {es = ls} {w = w} n is k) e =
          let b = back g r plain t v c ls n e is in
          whole_means w (λ σ f. M.of_con b.1 f) (λ a. M.in_con b.1 a) (λ d. inner b.1 d) (looks_all_means k (stands_elims b.2))
      looks_means {r} {v = v} (V.other {j = c} {t = t} {es = ls} n is o) e = let b = back g r plain t v c ls n e is in no (M.other b.1 o)
      looks_means {r} (V.at_var {i = i}) e = at (λ d. var_decides r i e d)
      looks_means {r} {v = v} (V.of_record {d = d} {t = t} {us = us} {w = w} i k) e =
          whole_means w (λ σ f. M.of_record f) (λ a. M.in_record a) (λ d. inner_record d)
          (looks_all_means k (stands_args (record_parts g shapes r i.con d i.params i.is_con us i.as_many {t = t} {v = v} [] [] e L.ends i.is)))
      looks_means {v = v} (V.of_projections {d = d} {t = t} {w = w} k) e =
          whole_means w (λ σ f. M.of_record f) (λ a. M.in_record a) (λ d. inner_record d) (looks_all_means k (stands_args (like_projections (fields_of g d) e)))
      looks_means V.at_record e = record_at
      looks_means V.unknown e = stop

      pub looks_all_means : {r : List Term} {ps : Shapes} {ls es : List Elim} {V : Verdict} → LooksAll g ps ls V → Stands r ls es → FrontMeans r ps es V
      looks_all_means V.end none = yes end none
      looks_all_means V.unsaid s = stop
      looks_all_means (V.arg {v = v} {w = w} k ks) (arg e s) = join_means v w (looks_means k e) (looks_all_means ks s)
      looks_all_means (V.field {w = w} q k) (field s) = field_means w q (looks_all_means k s)
      looks_all_means (V.other_field n) (field s) = no (λ es. M.other_field n)
