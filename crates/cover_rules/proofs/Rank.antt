-- The rank under a change of variables, and where a split shows a constructor.
use Rattle.std.specs.Prelude.{◌≡◌, ◌≢◌, ℕ, ◌+◌, ◌<◌, ◌≤◌, ◌⊎◌, List, [], ◌∷◌, map, refl}
use Rattle.std.proofs.Common.{ap, ap₂, sym, ◌∙◌, subst as transport, arith}
use mathlib.Core.Logic.{inl, inr}
use Rattle.core_rules.specs.declared.Flag.{Flag}
use Rattle.core_rules.specs.Term.{Term, Var, Sort, Pi, Lam, App, Def, Fam, Con, Proj, Meta}
use Rattle.core_rules.specs.Substitution.{over}
use Rattle.core_rules.specs.Signature.{Signature, fields_of}
use Rattle.core_rules.specs.Elimination.{Elim, Arg, Field, projections, elims_over}
use Rattle.core_rules.specs.Heads.{Form, Blocked, Bounded, Within, Out, HeadOf}
use Rattle.core_rules.specs.BoundedLaws.{no_solutions}
use Rattle.core_rules.specs.Laws.{IsLifted}
use Rattle.match_rules.specs.Matching.{Shape, Any, OfCon, OfRecord, Nothing, OfField, Shapes, NoShape, AndShape, Bound, HasHead, as_args}
use Rattle.core_rules.proofs.Spines.{projections-over}
use Rattle.match_rules.proofs.Cover.Comes.{of_head, to_head, comes-over}
use Rattle.match_rules.proofs.Cover.Standing.{one_head}
use Rattle.cover_rules.specs.Looking as L
use Rattle.cover_rules.specs.Looking.{At, RecordAt, Look, Yes, Halts, whole, after, Face, Variable, Neutral, Constructor, Another, Faces, ConHead, IsCon, con_head, RecordFace, Unknown, Itself, Through, record_face, Looks, LooksCon, LooksRecord, LooksAll}
use Rattle.cover_rules.specs.Ending as E
use Rattle.cover_rules.specs.Ending.{size, sizes, Rank, Ranks}
use Rattle.cover_rules.proofs.One.{faces_one}
use Rattle.cover_rules.proofs.Faces.{no_head, variable_is, neutral_projection, args-over, stays, face_over, face-over, not_unknown}

-- a number below n that has the property
pub record Lower (P : ℕ → Type 0) (n : ℕ) : Type 0 where
  pub rank : ℕ
  pub less : rank < n
  pub holds : P rank

pub same_or_not : (i k : ℕ) → (i ≡ k) ⊎ (i ≢ k)
same_or_not i k = by (below i k) (below k i)
  where
    below : (i k : ℕ) → (i < k) ⊎ (k ≤ i)
    below i k = grind arith

    by : (i < k) ⊎ (k ≤ i) → (k < i) ⊎ (i ≤ k) → (i ≡ k) ⊎ (i ≢ k)
    by (inl h) q = inr (λ e. omega (arith, h, e))
    by (inr h) (inl q) = inr (λ e. omega (arith, q, e))
    by (inr h) (inr q) = inl (omega (arith, h, q))

module _ (g : Signature Term) where
  mutual
    pub rank_more : {p : Shape} {t : Term} {n m : ℕ} → n ≤ m → Rank g p t n → Rank g p t m
    rank_more h E.any = E.any
    rank_more h E.nothing = E.nothing
    rank_more h E.of_field = E.of_field
    rank_more h (E.con_unseen l) = E.con_unseen (omega (arith, h, l))
    rank_more h (E.con_seen i r) = E.con_seen i (ranks_more h r)
    rank_more h (E.con_other i n) = E.con_other i n
    rank_more h (E.record_unseen l) = E.record_unseen (omega (arith, h, l))
    rank_more h (E.record_itself f e r) = E.record_itself f e (ranks_more h r)
    rank_more h (E.record_con f e r) = E.record_con f e (ranks_more h r)
    rank_more h (E.record_through f r) = E.record_through f (ranks_more h r)

    pub ranks_more : {ps : Shapes} {es : List Elim} {n m : ℕ} → n ≤ m → Ranks g ps es n → Ranks g ps es m
    ranks_more h E.none = E.none
    ranks_more h (E.ahead l) = E.ahead (omega (arith, h, l))
    ranks_more h (E.arg r rs l) = E.arg r rs (omega (arith, h, l))
    ranks_more h (E.field r) = E.field (ranks_more h r)

  pub rank_full : (p : Shape) (t : Term) → Rank g p t (size p)
  rank_full (Any o) t = E.any
  rank_full (OfCon k ps) t = E.con_unseen (omega arith)
  rank_full (OfRecord d ps) t = E.record_unseen (omega arith)
  rank_full Nothing t = E.nothing
  rank_full (OfField f) t = E.of_field

  pub ranks_full : (ps : Shapes) (es : List Elim) → Ranks g ps es (sizes ps)
  ranks_full NoShape es = E.none
  ranks_full (AndShape p ps) [] = E.ahead (omega arith)
  ranks_full (AndShape p ps) (Arg b t ∷ es) = E.arg (rank_full p t) (ranks_full ps es) (omega arith)
  ranks_full (AndShape p ps) (Field f ∷ es) = E.field (ranks_more (omega arith) (ranks_full ps es))

  module _ (f : ℕ → ℕ → Term) (l : IsLifted f) (d : ℕ) where
    pub head-over : {t : Term} {k : ℕ} {es : List Elim} → HasHead g t k es → HasHead g (over f d t) k (elims_over f d es)
    head-over h = to_head g (comes-over g f l d (of_head g h).comes)

    pub through-over : (e : ℕ) (ps : Shapes) (t : Term) (n : ℕ) → Ranks g ps (elims_over f d (as_args (projections g e t))) n → Ranks g ps (as_args (projections g e (over f d t))) n
    through-over e ps t n r = transport (λ es. Ranks g ps es n) (args-over f d (projections g e t) ∙ ap as_args (projections-over f d g e t)) r

    mutual
      pub rank-over : {p : Shape} {t : Term} {n : ℕ} → Rank g p t n → Rank g p (over f d t) n
      rank-over E.any = E.any
      rank-over E.nothing = E.nothing
      rank-over E.of_field = E.of_field
      rank-over (E.con_unseen l) = E.con_unseen l
      rank-over (E.con_seen i r) = E.con_seen (head-over i) (ranks-over r)
      rank-over (E.con_other i n) = E.con_other (head-over i) n
      rank-over (E.record_unseen l) = E.record_unseen l
      rank-over {n = n} (E.record_itself {d = e} {k = k} {ps = ps} {es = es} {us = us} a q r) =
          E.record_itself (stays f d (Constructor k es) a) (face-over f d g e k es ∙ ap (face_over f d) q) (transport (λ es. Ranks g ps es n) (args-over f d us) (ranks-over r))
      rank-over {n = n} (E.record_con {d = e} {k = k} {ps = ps} {t = t} {es = es} a q r) =
          E.record_con (stays f d (Constructor k es) a) (face-over f d g e k es ∙ ap (face_over f d) q) (through-over e ps t n (ranks-over r))
      rank-over {n = n} (E.record_through {d = e} {ps = ps} {t = t} a r) = E.record_through (stays f d Another a) (through-over e ps t n (ranks-over r))

      pub ranks-over : {ps : Shapes} {es : List Elim} {n : ℕ} → Ranks g ps es n → Ranks g ps (elims_over f d es) n
      ranks-over E.none = E.none
      ranks-over (E.ahead l) = E.ahead l
      ranks-over (E.arg r rs l) = E.arg (rank-over r) (ranks-over rs) l
      ranks-over (E.field r) = E.field (ranks-over r)

  pub con_is : (fuel : ℕ) (t : Term) (b : Bounded) → HeadOf g no_solutions t fuel b → (j : ℕ) (es : List Elim) → con_head b ≡ IsCon j es → HasHead g t j es
  con_is fuel t Out h j es e = absurd cc
  con_is fuel t (Within (Blocked m a ds) n) h j es e = absurd cc
  con_is fuel t (Within (Form (Con k ps) ds) n) h j es e = let x : (k ≡ j) × (ds ≡ es) = (cc e, cc e) in transport (λ j. HasHead g t j es) x.0 (transport (λ es. HasHead g t k es) x.1 (record { params = ps; steps = n; heads = h.0 }))
  con_is fuel t (Within (Form (Var i) ds) n) h j es e = absurd cc
  con_is fuel t (Within (Form (Sort i) ds) n) h j es e = absurd cc
  con_is fuel t (Within (Form (Pi b x a u) ds) n) h j es e = absurd cc
  con_is fuel t (Within (Form (Lam b x a u) ds) n) h j es e = absurd cc
  con_is fuel t (Within (Form (App b a u) ds) n) h j es e = absurd cc
  con_is fuel t (Within (Form (Def i) ds) n) h j es e = absurd cc
  con_is fuel t (Within (Form (Fam i) ds) n) h j es e = absurd cc
  con_is fuel t (Within (Form (Proj i a) ds) n) h j es e = absurd cc
  con_is fuel t (Within (Form (Meta i a) ds) n) h j es e = absurd cc

  module _ (fuel : ℕ) (f : ℕ → ℕ → Term) (l : IsLifted f) where
    -- the change puts a constructor for the variable at which a clause waits
    abbrev pub Shown : Look → Type 0
    Shown (Yes σ rs) = ⊥
    Shown (Halts L.Clash) = ⊥
    Shown (Halts (At i)) = (c : ℕ) × (es : List Elim) × HasHead g (f 0 i) c es
    Shown (Halts (RecordAt i)) = (c : ℕ) × (es : List Elim) × Faces no_solutions (f 0 i) [] (Constructor c es)
    Shown (Halts (L.NothingAt i)) = ⊥
    Shown (Halts L.Unable) = ⊥
    Shown (Halts L.Odd) = ⊥
    Shown (Halts L.Spent) = ⊥

    shown_whole : (w : Look) → Shown (whole w) → Shown w
    shown_whole (Yes σ NoShape) s = s
    shown_whole (Yes σ (AndShape p ps)) s = s
    shown_whole (Halts y) s = s

    shown_after : (σ : Bound) (w : Look) → Shown (after σ w) → Shown w
    shown_after σ (Yes τ ps) s = s
    shown_after σ (Halts y) s = s

    nothing_shown : (a : Face) → Shown (Halts (L.at_variable L.NothingAt a)) → ⊥
    nothing_shown (Variable i) s = s
    nothing_shown Neutral s = s
    nothing_shown (Constructor k es) s = s
    nothing_shown Another s = s

    -- a variable under eliminations asks for nothing that can be had
    data AllNeutral : List Elim → Type 0 where
      none : AllNeutral []
      one : {b : Flag} {t : Term} {es : List Elim} → Faces no_solutions t [] Neutral → AllNeutral es → AllNeutral (Arg b t ∷ es)

    neutral_fields : (t : Term) (fs : List ℕ) → Faces no_solutions t [] Neutral → AllNeutral (as_args (map (λ k. Proj k t) fs))
    neutral_fields t [] a = none
    neutral_fields t (k ∷ fs) a = one (neutral_projection k a) (neutral_fields t fs a)

    face_not : {X : Type 0} {t : Term} {i : ℕ} → Faces no_solutions t [] Neutral → Faces no_solutions t [] (Variable i) → X
    face_not a b = let e = faces_one a b in absurd cc

    mutual
      pub neutral_looks : {p : Shape} {t : Term} {w : Look} → Looks g no_solutions fuel p t w → Faces no_solutions t [] Neutral → Shown w → ⊥
      neutral_looks L.any a s = s
      neutral_looks (L.nothing b h) a s = nothing_shown b s
      neutral_looks L.of_field a s = s
      neutral_looks {t = t} (L.of_con b e h c) a s = neutral_con c (con_is fuel t b h) a s
      neutral_looks (L.of_record (Variable i) h c) a s = let e = faces_one h a in absurd cc
      neutral_looks (L.of_record Neutral h c) a s = neutral_record c a s
      neutral_looks (L.of_record (Constructor k es) h c) a s = let e = faces_one h a in absurd cc
      neutral_looks (L.of_record Another h c) a s = let e = faces_one h a in absurd cc

      neutral_con : {k : ℕ} {ps : Shapes} {t : Term} {h : ConHead} {w : Look} → LooksCon g no_solutions fuel k ps t h w → ((j : ℕ) (es : List Elim) → h ≡ IsCon j es → HasHead g t j es) → Faces no_solutions t [] Neutral → Shown w → ⊥
      neutral_con L.no_fuel i a s = s
      neutral_con (L.same {j = j} {es = es} e c) i a s = no_head g a tt (i j es refl).heads
      neutral_con (L.another n e) i a s = s
      neutral_con (L.a_record n e) i a s = s
      neutral_con (L.no_con (Variable j) b) i a s = face_not a b
      neutral_con (L.no_con Neutral b) i a s = s
      neutral_con (L.no_con (Constructor k es) b) i a s = s
      neutral_con (L.no_con Another b) i a s = s

      neutral_record : {d : ℕ} {ps : Shapes} {t : Term} {w : Look} → LooksRecord g no_solutions fuel d ps t Through w → Faces no_solutions t [] Neutral → Shown w → ⊥
      neutral_record {d = d} {t = t} (L.through {w = w} c) a s = neutral_all c (neutral_fields t (fields_of g d) a) (shown_whole w s)

      neutral_all : {ps : Shapes} {es : List Elim} {w : Look} → LooksAll g no_solutions fuel ps es w → AllNeutral es → Shown w → ⊥
      neutral_all L.end a s = s
      neutral_all L.too_many a s = s
      neutral_all (L.arg {σ = σ} {w = w} c cs) (one a as_) s = neutral_all cs as_ (shown_after σ w s)
      neutral_all (L.arg_halts c) (one a as_) s = neutral_looks c a s
      neutral_all (L.field e c) a s = elim a [ ]
      neutral_all (L.other_field n) a s = s
      neutral_all (L.no_field i) a s = s

    -- where a constructor stands for the variable
    new_con : (k : ℕ) (ps : Shapes) (t : Term) (n c : ℕ) (es : List Elim) → 1 + sizes ps ≤ n → HasHead g (over f 0 t) c es → Lower (Rank g (OfCon k ps) (over f 0 t)) n
    new_con k ps t n c es h i = by (same_or_not c k)
      where
        by : (c ≡ k) ⊎ (c ≢ k) → Lower (Rank g (OfCon k ps) (over f 0 t)) n
        by (inl e) = record { rank = sizes ps; less = omega (arith, h); holds = E.con_seen (transport (λ c. HasHead g (over f 0 t) c es) e i) (ranks_full ps es) }
        by (inr e) = record { rank = sizes ps; less = omega (arith, h); holds = E.con_other i e }

    new_record : (d : ℕ) (ps : Shapes) (t : Term) (n c : ℕ) (es : List Elim) → 1 + sizes ps ≤ n → Faces no_solutions (over f 0 t) [] (Constructor c es) → Lower (Rank g (OfRecord d ps) (over f 0 t)) n
    new_record d ps t n c es h a = by (record_face g d (Constructor c es)) refl
      where
        by : (r : RecordFace) → record_face g d (Constructor c es) ≡ r → Lower (Rank g (OfRecord d ps) (over f 0 t)) n
        by (Unknown i) e = absurd (not_unknown g d c es i e)
        by (Itself us) e = record { rank = sizes ps; less = omega (arith, h); holds = E.record_itself a e (ranks_full ps (as_args us)) }
        by Through e = record { rank = sizes ps; less = omega (arith, h); holds = E.record_con a e (ranks_full ps (as_args (projections g d (over f 0 t)))) }

    con_faces : {k j : ℕ} {es ds : List Elim} → Constructor k es ≡ Constructor j ds → (k ≡ j) × (es ≡ ds)
    con_faces e = (cc e, cc e)

    same_itself : {us vs : List Term} → Itself us ≡ Itself vs → us ≡ vs
    same_itself e = cc e

    -- the rank of a pattern whose arguments fall
    falls_con : {k : ℕ} {ps : Shapes} {t : Term} {es : List Elim} {n m : ℕ} → m ≤ n → HasHead g t k es → Lower (Ranks g ps (elims_over f 0 es)) m → Lower (Rank g (OfCon k ps) (over f 0 t)) n
    falls_con {m = m} h i x = record { rank = x.rank; less = let y = x.less in omega (arith, h, y); holds = E.con_seen (head-over f l 0 i) x.holds }

    falls_itself : {d k : ℕ} {ps : Shapes} {t : Term} {es : List Elim} (us : List Term) {n m : ℕ} → m ≤ n → Faces no_solutions t [] (Constructor k es) → record_face g d (Constructor k es) ≡ Itself us → Lower (Ranks g ps (elims_over f 0 (as_args us))) m → Lower (Rank g (OfRecord d ps) (over f 0 t)) n
    falls_itself {d} {k} {ps} {t} {es} us h a e x = record {
      rank = x.rank;
      less = let y = x.less in omega (arith, h, y);
      holds = E.record_itself (stays f 0 (Constructor k es) a) (face-over f 0 g d k es ∙ ap (face_over f 0) e) (transport (λ es. Ranks g ps es x.rank) (args-over f 0 us) x.holds);
    }

    falls_past : {d k : ℕ} {ps : Shapes} {t : Term} {es : List Elim} {n m : ℕ} → m ≤ n → Faces no_solutions t [] (Constructor k es) → record_face g d (Constructor k es) ≡ Through → Lower (Ranks g ps (elims_over f 0 (as_args (projections g d t)))) m → Lower (Rank g (OfRecord d ps) (over f 0 t)) n
    falls_past {d} {k} {ps} {t} {es} h a e x = record {
      rank = x.rank;
      less = let y = x.less in omega (arith, h, y);
      holds = E.record_con (stays f 0 (Constructor k es) a) (face-over f 0 g d k es ∙ ap (face_over f 0) e) (through-over f l 0 d ps t x.rank x.holds);
    }

    falls_through : {d : ℕ} {ps : Shapes} {t : Term} {n m : ℕ} → m ≤ n → Faces no_solutions t [] Another → Lower (Ranks g ps (elims_over f 0 (as_args (projections g d t)))) m → Lower (Rank g (OfRecord d ps) (over f 0 t)) n
    falls_through {d} {ps} {t} h a x = record {
      rank = x.rank;
      less = let y = x.less in omega (arith, h, y);
      holds = E.record_through (stays f 0 Another a) (through-over f l 0 d ps t x.rank x.holds);
    }

    mutual
      pub looks_falls : {p : Shape} {t : Term} {w : Look} {n : ℕ} → Looks g no_solutions fuel p t w → Shown w → Rank g p t n → Lower (Rank g p (over f 0 t)) n
      looks_falls L.any s r = absurd s
      looks_falls (L.nothing b h) s r = absurd (nothing_shown b s)
      looks_falls L.of_field s r = absurd s
      looks_falls {t = t} (L.of_con b e h c) s r = con_falls c (con_is fuel t b h) s r
      looks_falls (L.of_record (Variable i) a c) s r = variable_falls a c s r
      looks_falls (L.of_record Neutral a c) s r = absurd (neutral_record c a s)
      looks_falls (L.of_record {d = d} (Constructor k es) a c) s r = itself_falls (record_face g d (Constructor k es)) refl a c s r
      looks_falls (L.of_record Another a c) s r = another_falls a c s r

      con_falls : {k : ℕ} {ps : Shapes} {t : Term} {h : ConHead} {w : Look} {n : ℕ} → LooksCon g no_solutions fuel k ps t h w → ((j : ℕ) (es : List Elim) → h ≡ IsCon j es → HasHead g t j es) → Shown w → Rank g (OfCon k ps) t n → Lower (Rank g (OfCon k ps) (over f 0 t)) n
      con_falls L.no_fuel i s r = absurd s
      con_falls {t = t} (L.same {j = j} {es = es} {w = w} e c) i s (E.con_unseen h) =
          falls_con (omega (arith, h)) (transport (λ j. HasHead g t j es) e (i j es refl)) (all_falls c (shown_whole w s) (ranks_full _ es))
      con_falls {ps = ps} {t = t} {n = n} (L.same {j = j} {es = es} {w = w} e c) i s (E.con_seen h r) =
          let q = one_head g h (i j es refl) in
          falls_con (omega arith) (transport (λ j. HasHead g t j es) e (i j es refl)) (all_falls c (shown_whole w s) (transport (λ es. Ranks g ps es n) q.1 r))
      con_falls (L.same {j = j} {es = es} e c) i s (E.con_other h n) = absurd (n ((one_head g h (i j es refl)).0 ∙ e))
      con_falls (L.another n e) i s r = absurd s
      con_falls (L.a_record n e) i s r = absurd s
      con_falls {k} {ps} {t} {n = n} (L.no_con (Variable j) b) i s (E.con_unseen h) = new_con k ps t n s.0 s.1 h (transport (λ u. HasHead g (over f 0 u) s.0 s.1) (sym (variable_is b)) s.2)
      con_falls (L.no_con (Variable j) b) i s (E.con_seen h r) = absurd (no_head g b tt h.heads)
      con_falls (L.no_con (Variable j) b) i s (E.con_other h n) = absurd (no_head g b tt h.heads)
      con_falls (L.no_con Neutral b) i s r = absurd s
      con_falls (L.no_con (Constructor k es) b) i s r = absurd s
      con_falls (L.no_con Another b) i s r = absurd s

      variable_falls : {d i : ℕ} {ps : Shapes} {t : Term} {w : Look} {n : ℕ} → Faces no_solutions t [] (Variable i) → LooksRecord g no_solutions fuel d ps t (Unknown i) w → Shown w → Rank g (OfRecord d ps) t n → Lower (Rank g (OfRecord d ps) (over f 0 t)) n
      variable_falls {d} {i} {ps} {t} {n = n} a L.unknown s (E.record_unseen h) = new_record d ps t n s.0 s.1 h (transport (λ u. Faces no_solutions (over f 0 u) [] (Constructor s.0 s.1)) (sym (variable_is a)) s.2)
      variable_falls a L.unknown s (E.record_itself b e r) = let q = faces_one a b in absurd cc
      variable_falls a L.unknown s (E.record_con b e r) = let q = faces_one a b in absurd cc
      variable_falls a L.unknown s (E.record_through b r) = let q = faces_one a b in absurd cc

      itself_falls : {d k : ℕ} {es : List Elim} {ps : Shapes} {t : Term} {w : Look} {n : ℕ} (x : RecordFace) → record_face g d (Constructor k es) ≡ x → Faces no_solutions t [] (Constructor k es) → LooksRecord g no_solutions fuel d ps t x w → Shown w → Rank g (OfRecord d ps) t n → Lower (Rank g (OfRecord d ps) (over f 0 t)) n
      itself_falls {d} {k} {es} x e a (L.unknown {i = i}) s r = absurd (not_unknown g d k es i e)
      itself_falls {ps = ps} x e a (L.itself {us = us} {w = w} c) s (E.record_unseen h) = falls_itself us (omega (arith, h)) a e (all_falls c (shown_whole w s) (ranks_full ps (as_args us)))
      itself_falls {d} {ps = ps} {n = n} x e a (L.itself {us = us} {w = w} c) s (E.record_itself b q r) =
          let y = con_faces (faces_one b a) in
          let z : Itself _ ≡ Itself us = sym q ∙ (ap₂ (λ k es. record_face g d (Constructor k es)) y.0 y.1 ∙ e) in
          falls_itself us (omega arith) a e (all_falls c (shown_whole w s) (transport (λ us. Ranks g ps (as_args us) n) (same_itself z) r))
      itself_falls {d} x e a (L.itself {us = us} c) s (E.record_con b q r) =
          let y = con_faces (faces_one b a) in
          let z : Through ≡ Itself us = sym q ∙ (ap₂ (λ k es. record_face g d (Constructor k es)) y.0 y.1 ∙ e) in
          absurd cc
      itself_falls x e a (L.itself c) s (E.record_through b r) = let q = faces_one a b in absurd cc
      itself_falls {d} {ps = ps} {t = t} x e a (L.through {w = w} c) s (E.record_unseen h) = falls_past (omega (arith, h)) a e (all_falls c (shown_whole w s) (ranks_full ps (as_args (projections g d t))))
      itself_falls {d} x e a (L.through c) s (E.record_itself {us = us} b q r) =
          let y = con_faces (faces_one b a) in
          let z : Itself us ≡ Through = sym q ∙ (ap₂ (λ k es. record_face g d (Constructor k es)) y.0 y.1 ∙ e) in
          absurd cc
      itself_falls x e a (L.through {w = w} c) s (E.record_con b q r) = falls_past (omega arith) a e (all_falls c (shown_whole w s) r)
      itself_falls x e a (L.through c) s (E.record_through b r) = let q = faces_one a b in absurd cc

      another_falls : {d : ℕ} {ps : Shapes} {t : Term} {w : Look} {n : ℕ} → Faces no_solutions t [] Another → LooksRecord g no_solutions fuel d ps t Through w → Shown w → Rank g (OfRecord d ps) t n → Lower (Rank g (OfRecord d ps) (over f 0 t)) n
      another_falls {d} {ps} {t} a (L.through {w = w} c) s (E.record_unseen h) = falls_through (omega (arith, h)) a (all_falls c (shown_whole w s) (ranks_full ps (as_args (projections g d t))))
      another_falls a (L.through c) s (E.record_itself b q r) = let q = faces_one a b in absurd cc
      another_falls a (L.through c) s (E.record_con b q r) = let q = faces_one a b in absurd cc
      another_falls a (L.through {w = w} c) s (E.record_through b r) = falls_through (omega arith) a (all_falls c (shown_whole w s) r)

      pub all_falls : {ps : Shapes} {es : List Elim} {w : Look} {n : ℕ} → LooksAll g no_solutions fuel ps es w → Shown w → Ranks g ps es n → Lower (Ranks g ps (elims_over f 0 es)) n
      all_falls L.end s r = absurd s
      all_falls L.too_many s r = absurd s
      all_falls (L.arg {σ = σ} {w = w} c cs) s (E.arg {i = i} r rs h) =
          let x = all_falls cs (shown_after σ w s) rs in
          record { rank = i + x.rank; less = let y = x.less in omega (arith, h, y); holds = E.arg (rank-over f l 0 r) x.holds (omega arith) }
      all_falls (L.arg_halts c) s (E.arg {j = j} r rs h) =
          let x = looks_falls c s r in
          record { rank = x.rank + j; less = let y = x.less in omega (arith, h, y); holds = E.arg x.holds (ranks-over f l 0 rs) (omega arith) }
      all_falls (L.field e c) s (E.field r) = let x = all_falls c s r in record { rank = x.rank; less = x.less; holds = E.field x.holds }
      all_falls (L.other_field n) s r = absurd s
      all_falls (L.no_field i) s r = absurd s
