-- What bounded matching says is what following a tree asks for.
use Rattle.std.specs.Prelude.{◌≡◌, ℕ, Bool, true, false, eqb, cond, List, [], ◌∷◌, Option, Some, None, refl, suc}
use Rattle.std.proofs.Common.{ap, ap₂, sym, ◌∙◌, subst as transport, eqb-true}
use Rattle.core_rules.specs.Term.{Term, Terms, Var, Con}
use Rattle.core_rules.specs.Signature.{Signature}
use Rattle.core_rules.specs.Elimination.{Elim, Arg, elims}
use Rattle.core_rules.specs.Bounded.{RecordValue}
use Rattle.core_rules.specs.BoundedLaws.{no_solutions}
use Rattle.match_rules.specs.Matching.{Shape, Any, OfCon, OfRecord, Nothing, OfField, Shapes, NoShape, AndShape, Clause, Bound, HasHead, eta_family}
use Rattle.match_rules.specs.Covering as C
use Rattle.match_rules.specs.Covering.{Verdict, IsItself, IsDue}
use Rattle.cover_rules.specs.Flagged.{flagged_value}
use Rattle.cover_rules.specs.Looking as L
use Rattle.cover_rules.specs.Looking.{Why, Look, Yes, Halts, Clash, whole, after, Face, Variable, Neutral, Constructor, Another, Faces, ConHead, IsCon, RecordFace, Unknown, Itself, Through, itself_at, record_face, Looks, LooksCon, LooksRecord, LooksAll}
use Rattle.core_rules.specs.UnifierAnswers.{Unifier}
use Rattle.cover_rules.specs.CoverOf as V
use Rattle.cover_rules.specs.CoverOf.{Asked, ARight, AnArgument, AProjection, ASplit, ARecordSplit, AnAbsurd, NoClause, NotOneKind, NoVariable, NoFuelLeft, by_kind, kind_of, all_next, asked, asked_of, Judges}
use Rattle.cover_rules.proofs.Flagged.{IsValue, flagged_value_is}
use Rattle.cover_rules.proofs.Faces.{is_that, variable_is, not_unknown}
use Rattle.cover_rules.proofs.Rank.{con_is}

abbrev pub verdict : Look → Verdict
verdict (Yes σ rs) = C.Yes σ rs
verdict (Halts Clash) = C.No
verdict (Halts (L.At i)) = C.At i
verdict (Halts (L.RecordAt i)) = C.RecordAt i
verdict (Halts (L.NothingAt i)) = C.Stop
verdict (Halts L.Unable) = C.Stop
verdict (Halts L.Odd) = C.Stop
verdict (Halts L.Spent) = C.Stop

verdict-whole : (w : Look) → C.whole (verdict w) ≡ verdict (whole w)
verdict-whole (Yes σ NoShape) = refl
verdict-whole (Yes σ (AndShape p ps)) = refl
verdict-whole (Halts Clash) = refl
verdict-whole (Halts (L.At i)) = refl
verdict-whole (Halts (L.RecordAt i)) = refl
verdict-whole (Halts (L.NothingAt i)) = refl
verdict-whole (Halts L.Unable) = refl
verdict-whole (Halts L.Odd) = refl
verdict-whole (Halts L.Spent) = refl

verdict-after : (σ : Bound) (rs : Shapes) (w : Look) → C.join (C.Yes σ rs) (verdict w) ≡ verdict (after σ w)
verdict-after σ rs (Yes τ ps) = refl
verdict-after σ rs (Halts Clash) = refl
verdict-after σ rs (Halts (L.At i)) = refl
verdict-after σ rs (Halts (L.RecordAt i)) = refl
verdict-after σ rs (Halts (L.NothingAt i)) = refl
verdict-after σ rs (Halts L.Unable) = refl
verdict-after σ rs (Halts L.Odd) = refl
verdict-after σ rs (Halts L.Spent) = refl

verdict-stops : (y : Why) → C.join (verdict (Halts y)) C.Stop ≡ verdict (Halts y)
verdict-stops Clash = refl
verdict-stops (L.At i) = refl
verdict-stops (L.RecordAt i) = refl
verdict-stops (L.NothingAt i) = refl
verdict-stops L.Unable = refl
verdict-stops L.Odd = refl
verdict-stops L.Spent = refl

module _ (g : Signature Term) where
  -- the constructor of a record that has eta
  itself_is : (d k : ℕ) (t : Term) (ps : Terms) (es : List Elim) (us : List Term) → t ≡ elims (Con k ps) es → itself_at d (flagged_value g k es) ≡ Itself us → IsItself g d t us
  itself_is d k t ps es us e q = by (flagged_value g k es) refl q
    where
      itself_one : {vs ws : List Term} → Itself vs ≡ Itself ws → vs ≡ ws
      itself_one e = cc e

      by_fam : (v : RecordValue) → flagged_value g k es ≡ Some v → (b : Bool) → eqb v.fam d ≡ b → cond b (Itself v.values) Through ≡ Itself us → IsItself g d t us
      by_fam v x false y q = absurd cc
      by_fam v x true y q =
          let i : IsValue g (Con k ps) es v = flagged_value_is g k ps es v x in
          transport (λ d. IsItself g d t us) (eqb-true v.fam d y)
          (transport (λ us. IsItself g v.fam t us) (itself_one q)
          (record { con = i.con; params = i.params; is_con = i.is; as_many = i.as_many; is = e ∙ ap₂ elims i.head i.spine }))

      by : (o : Option RecordValue) → flagged_value g k es ≡ o → itself_at d o ≡ Itself us → IsItself g d t us
      by None x q = absurd cc
      by (Some v) x q = by_fam v x (eqb v.fam d) refl q

  module _ (fuel : ℕ) where
    itself_by : (d : ℕ) (t : Term) (us : List Term) (b : Face) → Faces no_solutions t [] b → record_face g d b ≡ Itself us → IsItself g d t us
    itself_by d t us (Variable i) a e = absurd cc
    itself_by d t us Neutral a e = absurd cc
    itself_by d t us (Constructor k es) a e = let x = is_that (Constructor k es) a in itself_is d k t x.0 es us x.1 e
    itself_by d t us Another a e = absurd cc

    unknown_by : (d i : ℕ) (t : Term) (b : Face) → Faces no_solutions t [] b → record_face g d b ≡ Unknown i → t ≡ Var i
    unknown_by d i t (Variable j) a e = let q : j ≡ i = cc e in variable_is a ∙ ap Var q
    unknown_by d i t Neutral a e = absurd cc
    unknown_by d i t (Constructor k es) a e = absurd (not_unknown g d k es i e)
    unknown_by d i t Another a e = absurd cc

    stops_at : (p : Shape) (t : Term) (b : Face) → C.Looks g p t (verdict (Halts (L.at_variable L.NothingAt b)))
    stops_at p t (Variable i) = C.unknown
    stops_at p t Neutral = C.unknown
    stops_at p t (Constructor k es) = C.unknown
    stops_at p t Another = C.unknown

    mutual
      pub looks_agrees : {p : Shape} {t : Term} {w : Look} → Looks g no_solutions fuel p t w → C.Looks g p t (verdict w)
      looks_agrees L.any = C.any
      looks_agrees {p} {t} (L.nothing b a) = stops_at p t b
      looks_agrees L.of_field = C.unknown
      looks_agrees {t = t} (L.of_con b e h c) = con_agrees e c (con_is g fuel t b h)
      looks_agrees {t = t} (L.of_record {d = d} b a c) = record_agrees c (λ us e. itself_by d t us b a e) (λ i e. unknown_by d i t b a e)

      con_agrees : {k : ℕ} {ps : Shapes} {t : Term} {h : ConHead} {w : Look} → eta_family g k ≡ None → LooksCon g no_solutions fuel k ps t h w → ((j : ℕ) (es : List Elim) → h ≡ IsCon j es → HasHead g t j es) → C.Looks g (OfCon k ps) t (verdict w)
      con_agrees e L.no_fuel i = C.unknown
      con_agrees {k} {ps} {t} e (L.same {j = j} {es = es} {w = w} q c) i = transport (C.Looks g (OfCon k ps) t) (verdict-whole w) (C.of_con e (transport (λ j. HasHead g t j es) q (i j es refl)) (all_agrees c))
      con_agrees e (L.another {j = j} {es = es} n q) i = C.other q (i j es refl) n
      con_agrees e (L.a_record n q) i = C.unknown
      con_agrees {k} {ps} e (L.no_con (Variable j) a) i = transport (λ t. C.Looks g (OfCon k ps) t (C.At j)) (sym (variable_is a)) C.at_var
      con_agrees e (L.no_con Neutral a) i = C.unknown
      con_agrees e (L.no_con (Constructor k es) a) i = C.unknown
      con_agrees e (L.no_con Another a) i = C.unknown

      record_agrees : {d : ℕ} {ps : Shapes} {t : Term} {x : RecordFace} {w : Look} → LooksRecord g no_solutions fuel d ps t x w → ((us : List Term) → x ≡ Itself us → IsItself g d t us) → ((i : ℕ) → x ≡ Unknown i → t ≡ Var i) → C.Looks g (OfRecord d ps) t (verdict w)
      record_agrees {d} {ps} (L.unknown {i = i}) h k = transport (λ t. C.Looks g (OfRecord d ps) t (C.RecordAt i)) (sym (k i refl)) C.at_record
      record_agrees {d} {ps} {t} (L.itself {us = us} {w = w} c) h k = transport (C.Looks g (OfRecord d ps) t) (verdict-whole w) (C.of_record (h us refl) (all_agrees c))
      record_agrees {d} {ps} {t} (L.through {w = w} c) h k = transport (C.Looks g (OfRecord d ps) t) (verdict-whole w) (C.of_projections (all_agrees c))

      pub all_agrees : {ps : Shapes} {es : List Elim} {w : Look} → LooksAll g no_solutions fuel ps es w → C.LooksAll g ps es (verdict w)
      all_agrees L.end = C.end
      all_agrees L.too_many = C.unsaid
      all_agrees (L.arg {p = p} {ps = ps} {rs = rs} {b = b} {t = t} {es = es} {σ = σ} {w = w} c cs) = transport (C.LooksAll g (AndShape p ps) (Arg b t ∷ es)) (verdict-after σ rs w) (C.arg (looks_agrees c) (all_agrees cs))
      all_agrees (L.arg_halts {p = p} {ps = ps} {b = b} {t = t} {es = es} {y = y} c) = transport (C.LooksAll g (AndShape p ps) (Arg b t ∷ es)) (verdict-stops y) (C.arg (looks_agrees c) C.unsaid)
      all_agrees (L.field e c) = C.field e (all_agrees c)
      all_agrees (L.other_field n) = C.other_field n
      all_agrees (L.no_field i) = C.unsaid

    -- what is due for what is asked
    abbrev pub DueFor : Asked → List Clause → List Elim → Type 0
    DueFor (ARight i q σ) ps ls = IsDue g ps ls (C.Ends q σ)
    DueFor AnArgument ps ls = IsDue g ps ls C.NextArg
    DueFor AProjection ps ls = IsDue g ps ls C.NextField
    DueFor (ASplit k) ps ls = IsDue g ps ls (C.SplitAt k)
    DueFor (ARecordSplit k) ps ls = IsDue g ps ls (C.RecordSplitAt k)
    DueFor (AnAbsurd k) ps ls = Unit {0}
    DueFor NoClause ps ls = Unit {0}
    DueFor NotOneKind ps ls = Unit {0}
    DueFor NoVariable ps ls = Unit {0}
    DueFor NoFuelLeft ps ls = Unit {0}

    skips : (a : Asked) (q : Clause) (ps : List Clause) {ls : List Elim} → C.LooksAll g q.shapes ls C.No → DueFor a ps ls → DueFor a (q ∷ ps) ls
    skips (ARight i q σ) q' ps x d = C.skip x d
    skips AnArgument q' ps x d = C.skip x d
    skips AProjection q' ps x d = C.skip x d
    skips (ASplit k) q' ps x d = C.skip x d
    skips (ARecordSplit k) q' ps x d = C.skip x d
    skips (AnAbsurd k) q' ps x d = tt
    skips NoClause q' ps x d = tt
    skips NotOneKind q' ps x d = tt
    skips NoVariable q' ps x d = tt
    skips NoFuelLeft q' ps x d = tt

    nexts : (b : Bool) (p : Shape) (q : Clause) (ps : List Clause) {ls : List Elim} {σ : Bound} {rs : Shapes} → C.LooksAll g q.shapes ls (C.Yes σ (AndShape p rs)) → DueFor (cond b (by_kind (kind_of p)) NotOneKind) (q ∷ ps) ls
    nexts false p q ps x = tt
    nexts true (Any o) q ps x = C.argument x C.any
    nexts true (OfCon k rs) q ps x = C.argument x C.of_con
    nexts true (OfRecord d rs) q ps x = C.argument x C.of_record
    nexts true Nothing q ps x = C.argument x C.nothing
    nexts true (OfField f) q ps x = C.projection x

    module _ (U : Unifier) (f : ℕ) (qs : List Clause) where
      abbrev asked_by : ℕ → ℕ → List Clause → Option (List Look) → Asked
      asked_by i n ps None = NoFuelLeft
      asked_by i n ps (Some ws) = asked_of i n ps ws

      dues : (i n : ℕ) {ps : List Clause} {ls : List Elim} {o : Option (List Look)} → Judges g no_solutions fuel U f qs ps ls o → DueFor (asked_by i n ps o) ps ls
      dues i n V.none = tt
      dues i n (V.one {w = Halts Clash} {o = None} a j) = tt
      dues i n (V.one {p = q} {ps = ps} {w = Halts Clash} {o = Some ws} a j) = skips (asked_of (suc i) n ps ws) q ps (all_agrees a) (dues (suc i) n j)
      dues i n (V.one {w = Yes σ rs} {o = None} a j) = tt
      dues i n (V.one {w = Yes σ NoShape} {o = Some ws} a j) = C.ends (all_agrees a)
      dues i n (V.one {p = q} {ps = ps} {w = Yes σ (AndShape p rs)} {o = Some ws} a j) = nexts (all_next (kind_of p) n ps ws) p q ps (all_agrees a)
      dues i n (V.one {w = Halts (L.At k)} {o = None} a j) = tt
      dues i n (V.one {w = Halts (L.At k)} {o = Some ws} a j) = C.at_split (all_agrees a)
      dues i n (V.one {w = Halts (L.RecordAt k)} {o = None} a j) = tt
      dues i n (V.one {w = Halts (L.RecordAt k)} {o = Some ws} a j) = C.at_record (all_agrees a)
      dues i n (V.one {w = Halts (L.NothingAt k)} {o = None} a j) = tt
      dues i n (V.one {w = Halts (L.NothingAt k)} {o = Some ws} a j) = tt
      dues i n (V.one {w = Halts L.Unable} {o = None} a j) = tt
      dues i n (V.one {w = Halts L.Unable} {o = Some ws} a j) = tt
      dues i n (V.one {w = Halts L.Odd} {o = None} a j) = tt
      dues i n (V.one {w = Halts L.Odd} {o = Some ws} a j) = tt
      dues i n (V.one {w = Halts L.Spent} a j) = tt

      pub is_due : (n : ℕ) {ls : List Elim} {o : Option (List Look)} → Judges g no_solutions fuel U f qs qs ls o → DueFor (asked n qs o) qs ls
      is_due n {o = None} j = tt
      is_due n {o = Some ws} j = dues 0 n j
