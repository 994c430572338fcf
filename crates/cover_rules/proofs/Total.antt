-- Each left side has an answer.
use Rattle.std.specs.Prelude.{◌≡◌, ◌≢◌, ℕ, ◌+◌, ◌<◌, ◌⊎◌, Bool, true, false, cond, List, [], ◌∷◌, length, map, sum, take, reverse, get_or, slice_get, Option, Some, None, option_and_then, refl, zero, suc}
use Rattle.std.proofs.Common.{ap, ◌∙◌, subst as transport, arith, zero-add}
use mathlib.Core.Logic.{inl, inr}
use Rattle.core_rules.specs.declared.Flag.{Flag}
use Rattle.core_rules.specs.Term.{Term, Var, Sort, Pi, Lam, App, Def, Fam, Con, Proj, Meta}
use Rattle.core_rules.specs.Substitution.{under}
use Rattle.core_rules.specs.Signature.{Signature, Telescope, Context, Branch, Tree, CoBranches, ConBranches, ConDecl, FamDecl, con_counts, con_place, con_decl, fams, fam_decl, cons_of, fields_of, numbers}
use Rattle.core_rules.specs.Elimination.{Elim, Arg, Field, elims, projections}
use Rattle.core_rules.specs.Heads.{Bounded, HeadOf}
use Rattle.core_rules.specs.BoundedLaws.{no_solutions}
use Rattle.core_rules.specs.Unification.{Equation, Solution}
use Rattle.core_rules.specs.TypedTree.{Splitting, con_context, index_equations}
use Rattle.match_rules.specs.Matching.{Shape, Any, OfCon, OfRecord, Nothing, OfField, Shapes, NoShape, AndShape, eta_family, Clause, Bound, as_args}
use Rattle.match_rules.specs.Covering as C
use Rattle.core_rules.proofs.Signature.Places.{numbers_at, places_at, length-fields_of}
use Rattle.cover_rules.specs.LeftSide.{Node, projected, opened, joined}
use Rattle.cover_rules.specs.Looking as L
use Rattle.cover_rules.specs.Looking.{Look, Yes, Halts, Clash, whole, after, Face, Faces, ConHead, NoFuel, IsCon, NoCon, con_head, RecordFace, Unknown, Itself, Through, record_face, Looks, LooksCon, LooksRecord, LooksAll}
use Rattle.core_rules.specs.UnifierAnswers as N
use Rattle.core_rules.specs.UnifierAnswers.{Unified, UnifiedBy, Unifier}
use Rattle.cover_rules.specs.CoverOf as V
use Rattle.cover_rules.specs.CoverOf.{Result, Done, Failed, Asked, ARight, AnArgument, AProjection, ASplit, ARecordSplit, AnAbsurd, NoClause, NotOneKind, NoVariable, NoFuelLeft, by_kind, kind_of, all_next, asked, asked_of, entry_type, Plan, Fails, Ends, Takes, Shows, Splits, Opens, Rejects, Judges, Planned, splitting_at, CoverOf, Built, Fields, Branches, Branched, NoneLeft, Rejected}
use Rattle.cover_rules.specs.Ready as R
use Rattle.cover_rules.specs.Ready.{Plain, PlainAll, HasNothing, OneNothing, AllReady}
use Rattle.cover_rules.specs.Ending as E
use Rattle.cover_rules.specs.Ending.{Below, Terminates, terminates}
use Rattle.cover_rules.proofs.Rank.{same_or_not}
use Rattle.cover_rules.proofs.Plans.{For, plan_for}
use Rattle.cover_rules.proofs.Falls.{all_terminate}

faces_all : (t : Term) (es : List Elim) → (b : Face) × Faces no_solutions t es b
faces_all (Var i) es = (_, L.variable)
faces_all (Sort n) es = (_, L.other tt)
faces_all (Pi b x a t) es = (_, L.other tt)
faces_all (Lam b x a t) es = (_, L.other tt)
faces_all (App b t u) es = let x = faces_all t (Arg b u ∷ es) in (x.0, L.argument x.1)
faces_all (Def f) es = (_, L.other tt)
faces_all (Fam d) es = (_, L.other tt)
faces_all (Con k ps) es = (_, L.constructor)
faces_all (Proj f t) es = let x = faces_all t (Field f ∷ es) in (x.0, L.projection x.1)
faces_all (Meta m ts) es = (_, L.unsolved refl)

-- Constructors of a family are known

some_at : {X : Type 0} (xs : List X) (i : ℕ) → i < length xs → (x : X) × (slice_get xs i ≡ Some x)
some_at [] i h = absurd (omega arith)
some_at (x ∷ xs) zero h = (x, refl)
some_at (x ∷ xs) (suc i) h = some_at xs i (omega arith)

counted : {X : Type 0} (f : X → ℕ) (ds : List X) (n : ℕ) (i : ℕ) → i < get_or (map f ds) n 0 → (d : X) × (slice_get ds n ≡ Some d) × (i < f d)
counted f [] n i h = absurd (omega arith)
counted f (d ∷ ds) zero i h = (d, refl, h)
counted f (d ∷ ds) (suc n) i h = counted f ds n i h

inside : (a m i k : ℕ) → slice_get (numbers a m) i ≡ Some k → i < m
inside a zero i k e = absurd cc
inside a (suc m) zero k e = omega arith
inside a (suc m) (suc i) k e = let h = inside (a + 1) m i k e in omega (arith, h)

cons_known : (g : Signature Term) (d i k : ℕ) → slice_get (cons_of g d) i ≡ Some k → (con : ConDecl Term) × (con_decl g k ≡ Some con)
cons_known g d i k e =
    let b : i < get_or (con_counts g) d 0 = inside (sum (take d (con_counts g))) (get_or (con_counts g) d 0) i k e in
    let p : k ≡ sum (take d (con_counts g)) + i = cc (e, numbers_at (sum (take d (con_counts g))) (get_or (con_counts g) d 0) i b) in
    let q : con_place g k ≡ Some (d, i) = rw p (places_at 0 (con_counts g) d i b ∙ ap (λ m. Some (m, i)) (zero-add d)) in
    let x = counted (λ d. length d.cons) (fams g) d i b in
    let y = some_at x.0.cons i x.2 in
    (y.0, ap (option_and_then (λ p. option_and_then (λ d. slice_get d.cons p.1) (fam_decl g p.0))) q ∙ (ap (option_and_then (λ d. slice_get d.cons i)) x.1 ∙ y.1))

field_count : {X : Type 0} (f : X → ℕ) (ds : List X) (n : ℕ) (d : X) → slice_get ds n ≡ Some d → get_or (map f ds) n 0 ≡ f d
field_count f [] n d e = absurd cc
field_count f (x ∷ ds) zero d e = cc e
field_count f (x ∷ ds) (suc n) d e = field_count f ds n d e

fields_known : (g : Signature Term) (d : ℕ) (decl : FamDecl Term) → fam_decl g d ≡ Some decl → length (fields_of g d) ≡ length decl.fields
fields_known g d decl e = length-fields_of g d ∙ field_count (λ d. length d.fields) (fams g) d decl e

module _ (g : Signature Term) (fuel : ℕ) (heads : (t : Term) → (b : Bounded) × HeadOf g no_solutions t fuel b) where
  con_total : (k : ℕ) (ps : Shapes) (t : Term) → ((es : List Elim) → (w : Look) × LooksAll g no_solutions fuel ps es w) → (h : ConHead) → (w : Look) × LooksCon g no_solutions fuel k ps t h w
  con_total k ps t all NoFuel = (_, L.no_fuel)
  con_total k ps t all (IsCon j es) = by (same_or_not j k)
    where
      by_eta : j ≢ k → (o : Option ℕ) → eta_family g j ≡ o → (w : Look) × LooksCon g no_solutions fuel k ps t (IsCon j es) w
      by_eta n None e = (_, L.another n e)
      by_eta n (Some d) e = (_, L.a_record n e)

      by : (j ≡ k) ⊎ (j ≢ k) → (w : Look) × LooksCon g no_solutions fuel k ps t (IsCon j es) w
      by (inl e) = let x = all es in (_, L.same e x.1)
      by (inr n) = by_eta n (eta_family g j) refl
  con_total k ps t all NoCon = let x = faces_all t [] in (_, L.no_con x.0 x.1)

  record_total : (d : ℕ) (ps : Shapes) (t : Term) → ((es : List Elim) → (w : Look) × LooksAll g no_solutions fuel ps es w) → (x : RecordFace) → (w : Look) × LooksRecord g no_solutions fuel d ps t x w
  record_total d ps t all (Unknown i) = (_, L.unknown)
  record_total d ps t all (Itself us) = let x = all (as_args us) in (_, L.itself x.1)
  record_total d ps t all Through = let x = all (as_args (projections g d t)) in (_, L.through x.1)

  arg_total : (p : Shape) (ps : Shapes) (b : Flag) (t : Term) (es : List Elim) (w : Look) → Looks g no_solutions fuel p t w → (v : Look) × LooksAll g no_solutions fuel ps es v → (v : Look) × LooksAll g no_solutions fuel (AndShape p ps) (Arg b t ∷ es) v
  arg_total p ps b t es (Yes σ rs) x y = (_, L.arg x y.1)
  arg_total p ps b t es (Halts z) x y = (_, L.arg_halts x)

  field_total : (p : Shape) (ps : Shapes) (h : ℕ) (es : List Elim) → (v : Look) × LooksAll g no_solutions fuel ps es v → (v : Look) × LooksAll g no_solutions fuel (AndShape p ps) (Field h ∷ es) v
  field_total (Any o) ps h es y = (_, L.no_field C.any)
  field_total (OfCon k qs) ps h es y = (_, L.no_field C.of_con)
  field_total (OfRecord d qs) ps h es y = (_, L.no_field C.of_record)
  field_total Nothing ps h es y = (_, L.no_field C.nothing)
  field_total (OfField f) ps h es y = by (same_or_not h f)
    where
      by : (h ≡ f) ⊎ (h ≢ f) → (v : Look) × LooksAll g no_solutions fuel (AndShape (OfField f) ps) (Field h ∷ es) v
      by (inl e) = (_, L.field e y.1)
      by (inr n) = (_, L.other_field n)

  mutual
    looks_total : {p : Shape} (t : Term) → Plain g p → (w : Look) × Looks g no_solutions fuel p t w
    looks_total t R.any = (_, L.any)
    looks_total t (R.of_con {k = k} {ps = ps} e pl) = let b = heads t in let x = con_total k ps t (λ es. all_total es pl) (con_head b.0) in (x.0, L.of_con b.0 e b.1 x.1)
    looks_total t (R.of_record {d = d} {ps = ps} pl) = let b = faces_all t [] in let x = record_total d ps t (λ es. all_total es pl) (record_face g d b.0) in (x.0, L.of_record b.0 b.1 x.1)
    looks_total t R.nothing = let b = faces_all t [] in (_, L.nothing b.0 b.1)
    looks_total t R.of_field = (_, L.of_field)

    all_total : {ps : Shapes} (es : List Elim) → PlainAll g ps → (w : Look) × LooksAll g no_solutions fuel ps es w
    all_total [] R.none = (_, L.end)
    all_total (e ∷ es) R.none = (_, L.too_many)
    all_total [] (R.more p pl) = (_, L.end)
    all_total (Arg b t ∷ es) (R.more {p = p} {ps = ps} x pl) = let y = looks_total t x in arg_total p ps b t es y.0 y.1 (all_total es pl)
    all_total (Field h ∷ es) (R.more {p = p} {ps = ps} x pl) = field_total p ps h es (all_total es pl)

  -- `()` never matches
  abbrev Full : Look → Type 0
  Full (Yes σ NoShape) = Unit {0}
  Full (Yes σ (AndShape p ps)) = ⊥
  Full (Halts y) = ⊥

  full_whole : (w : Look) → Full (whole w) → Full w
  full_whole (Yes σ NoShape) x = x
  full_whole (Yes σ (AndShape p ps)) x = x
  full_whole (Halts y) x = x

  full_after : (σ : Bound) (w : Look) → Full (after σ w) → Full w
  full_after σ (Yes τ NoShape) x = x
  full_after σ (Yes τ (AndShape p ps)) x = x
  full_after σ (Halts y) x = x

  abbrev Matches : Look → Type 0
  Matches (Yes σ rs) = Unit {0}
  Matches (Halts y) = ⊥

  matches_whole : (w : Look) → Matches (whole w) → Full w
  matches_whole (Yes σ NoShape) x = tt
  matches_whole (Yes σ (AndShape p ps)) x = x
  matches_whole (Halts y) x = x

  mutual
    never : {p : Shape} {t : Term} {w : Look} → Looks g no_solutions fuel p t w → HasNothing p → Matches w → ⊥
    never L.any h x = elim h [ ]
    never (L.nothing b a) h x = x
    never L.of_field h x = x
    never (L.of_con b e a c) (R.in_con h) x = never_con c h x
    never (L.of_record b a c) (R.in_record h) x = never_record c h x

    never_con : {k : ℕ} {ps : Shapes} {t : Term} {y : ConHead} {w : Look} → LooksCon g no_solutions fuel k ps t y w → OneNothing ps → Matches w → ⊥
    never_con L.no_fuel h x = x
    never_con (L.same {w = w} e c) h x = never_all c h (matches_whole w x)
    never_con (L.another n e) h x = x
    never_con (L.a_record n e) h x = x
    never_con (L.no_con b a) h x = x

    never_record : {d : ℕ} {ps : Shapes} {t : Term} {y : RecordFace} {w : Look} → LooksRecord g no_solutions fuel d ps t y w → OneNothing ps → Matches w → ⊥
    never_record L.unknown h x = x
    never_record (L.itself {w = w} c) h x = never_all c h (matches_whole w x)
    never_record (L.through {w = w} c) h x = never_all c h (matches_whole w x)

    never_all : {ps : Shapes} {es : List Elim} {w : Look} → LooksAll g no_solutions fuel ps es w → OneNothing ps → Full w → ⊥
    never_all L.end (R.here h) x = x
    never_all L.end (R.later h) x = x
    never_all L.too_many h x = x
    never_all (L.arg c cs) (R.here h) x = never c h tt
    never_all (L.arg {σ = σ} {w = w} c cs) (R.later h) x = never_all cs h (full_after σ w x)
    never_all (L.arg_halts c) h x = x
    never_all (L.field e c) (R.here h) x = elim h [ ]
    never_all (L.field e c) (R.later h) x = never_all c h x
    never_all (L.other_field n) h x = x
    never_all (L.no_field i) h x = x

  module _ (U : Unifier) (unifies : (c : Context Term) (es : List Equation) → (a : Unified) × U c es a) (f : ℕ) (qs : List Clause) (ready : AllReady g qs) where
    judges_total : {ps : List Clause} (ls : List Elim) → AllReady g ps → (o : Option (List Look)) × Judges g no_solutions fuel U f qs ps ls o
    judges_total ls R.none = (_, V.none)
    judges_total ls (R.one r rs) = let x = all_total ls r.plain in let y = judges_total ls rs in (_, V.one x.1 y.1)

    abbrev RightFor : Asked → Type 0
    RightFor (ARight i q σ) = (t : Term) × (q.right ≡ Some t)
    RightFor AnArgument = Unit {0}
    RightFor AProjection = Unit {0}
    RightFor (ASplit k) = Unit {0}
    RightFor (ARecordSplit k) = Unit {0}
    RightFor (AnAbsurd k) = Unit {0}
    RightFor NoClause = Unit {0}
    RightFor NotOneKind = Unit {0}
    RightFor NoVariable = Unit {0}
    RightFor NoFuelLeft = Unit {0}

    no_right : (b : Bool) (p : Shape) → RightFor (cond b (by_kind (kind_of p)) NotOneKind)
    no_right false p = tt
    no_right true (Any o) = tt
    no_right true (OfCon k rs) = tt
    no_right true (OfRecord d rs) = tt
    no_right true Nothing = tt
    no_right true (OfField f) = tt

    right_of : (q : Clause) (ls : List Elim) (σ : Bound) → R.IsReady g q → LooksAll g no_solutions fuel q.shapes ls (Yes σ NoShape) → (t : Term) × (q.right ≡ Some t)
    right_of q ls σ r a = by q.right refl
      where
        by : (o : Option Term) → q.right ≡ o → (t : Term) × (q.right ≡ Some t)
        by None e = absurd (never_all a (r.right e) tt)
        by (Some t) e = (t, e)

    abbrev asked_by : ℕ → ℕ → List Clause → Option (List Look) → Asked
    asked_by i n ps None = NoFuelLeft
    asked_by i n ps (Some ws) = asked_of i n ps ws

    rights : (i n : ℕ) {ps : List Clause} {ls : List Elim} {o : Option (List Look)} → Judges g no_solutions fuel U f qs ps ls o → AllReady g ps → RightFor (asked_by i n ps o)
    rights i n V.none r = tt
    rights i n (V.one {w = Halts Clash} {o = None} a j) r = tt
    rights i n (V.one {w = Halts Clash} {o = Some ws} a j) (R.one x r) = rights (suc i) n j r
    rights i n (V.one {w = Yes σ rs} {o = None} a j) r = tt
    rights i n (V.one {p = q} {ls = ls} {w = Yes σ NoShape} {o = Some ws} a j) (R.one x r) = right_of q ls σ x a
    rights i n (V.one {ps = ps} {w = Yes σ (AndShape p rs)} {o = Some ws} a j) r = no_right (all_next (kind_of p) n ps ws) p
    rights i n (V.one {w = Halts (L.At k)} {o = None} a j) r = tt
    rights i n (V.one {w = Halts (L.At k)} {o = Some ws} a j) r = tt
    rights i n (V.one {w = Halts (L.RecordAt k)} {o = None} a j) r = tt
    rights i n (V.one {w = Halts (L.RecordAt k)} {o = Some ws} a j) r = tt
    rights i n (V.one {w = Halts (L.NothingAt k)} {o = None} a j) r = tt
    rights i n (V.one {w = Halts (L.NothingAt k)} {o = Some ws} a j) r = tt
    rights i n (V.one {w = Halts L.Unable} {o = None} a j) r = tt
    rights i n (V.one {w = Halts L.Unable} {o = Some ws} a j) r = tt
    rights i n (V.one {w = Halts L.Odd} {o = None} a j) r = tt
    rights i n (V.one {w = Halts L.Odd} {o = Some ws} a j) r = tt
    rights i n (V.one {w = Halts L.Spent} a j) r = tt

    right_for : (n : ℕ) {ls : List Elim} {o : Option (List Look)} → Judges g no_solutions fuel U f qs qs ls o → RightFor (asked n qs o)
    right_for n {o = None} j = tt
    right_for n {o = Some ws} j = rights 0 n j ready

    planned_total : (n : Node) (a : Asked) → RightFor a → (p : Plan) × Planned g no_solutions fuel U f qs n a p
    planned_total n (ARight i q σ) r = (_, V.right r.1)
    planned_total n AnArgument r = let b = heads n.ty in (_, V.argument b.0 b.1)
    planned_total n AProjection r = let b = heads n.ty in (_, V.projection b.0 b.1)
    planned_total n (ASplit k) r = let b = heads (entry_type n.context k) in (_, V.split b.0 b.1)
    planned_total n (ARecordSplit k) r = let b = heads (entry_type n.context k) in (_, V.record_split b.0 b.1)
    planned_total n (AnAbsurd k) r = let b = heads (entry_type n.context k) in (_, V.absurd_split b.0 b.1)
    planned_total n NoClause r = (_, V.no_clause)
    planned_total n NotOneKind r = (_, V.not_one_kind)
    planned_total n NoVariable r = (_, V.no_variable)
    planned_total n NoFuelLeft r = (_, V.no_fuel)

    abbrev Covered : Node → Type 0
    Covered n = (w : Result (Tree Term)) × CoverOf g no_solutions fuel U f qs n w

    fields_total : (n : Node) (r : List Term) (hs : List ℕ) (es : Telescope Term) → length hs ≡ length es → ((h : ℕ) (t : Term) → Covered (projected n h t)) → (w : Result (CoBranches Term)) × Fields g no_solutions fuel U f qs n r hs es w
    fields_total n r [] [] l h = (_, V.no_field)
    fields_total n r [] (e ∷ es) l h = absurd (omega (arith, l))
    fields_total n r (k ∷ hs) [] l h = absurd (omega (arith, l))
    fields_total n r (k ∷ hs) (e ∷ es) l h = by (h k (under r e.ty)).0 (h k (under r e.ty)).1 (fields_total n (Proj k (elims (Def f) n.spine) ∷ r) hs es (omega (arith, l)) h)
      where
        by : (w : Result (Tree Term)) → CoverOf g no_solutions fuel U f qs (projected n k (under r e.ty)) w → (w : Result (CoBranches Term)) × Fields g no_solutions fuel U f qs n (Proj k (elims (Def f) n.spine) ∷ r) hs es w
            → (w : Result (CoBranches Term)) × Fields g no_solutions fuel U f qs n r (k ∷ hs) (e ∷ es) w
        by (Done T) c x = (_, V.on_field c x.1)
        by (Failed y) c x = (_, V.not_on_field c)

    goes_total : (n : Node) (a : Splitting) (k : ℕ) (con : ConDecl Term) (ss : List Solution) (b : Branch Term) (ks : List ℕ) (w : Result (Tree Term)) → CoverOf g no_solutions fuel U f qs (joined (opened n a k con.args) b) w
        → (w : Result (ConBranches Term)) × Branches g no_solutions fuel U f qs n a ks w → (w : Result (ConBranches Term)) × Branched g no_solutions fuel U f qs n a k con (UnifiedBy ss b) ks w
    goes_total n a k con ss b ks (Done T) c x = (_, V.goes c x.1)
    goes_total n a k con ss b ks (Failed y) c x = (_, V.not_built c)

    branched_total : (n : Node) (a : Splitting) (k : ℕ) (con : ConDecl Term) (u : Unified) (ks : List ℕ) → ((ss : List Solution) (b : Branch Term) → u ≡ UnifiedBy ss b → Covered (joined (opened n a k con.args) b))
        → (w : Result (ConBranches Term)) × Branches g no_solutions fuel U f qs n a ks w → (w : Result (ConBranches Term)) × Branched g no_solutions fuel U f qs n a k con u ks w
    branched_total n a k con (UnifiedBy ss b) ks h x = let y = h ss b refl in goes_total n a k con ss b ks y.0 y.1 x
    branched_total n a k con N.NeverUnified ks h x = (_, V.refuted x.1)
    branched_total n a k con (N.StuckAt t u) ks h x = (_, V.stuck)
    branched_total n a k con N.NoFuel ks h x = (_, V.no_fuel)
    branched_total n a k con N.NoDepth ks h x = (_, V.no_depth)

    branches_total : (n : Node) (a : Splitting) (ks : List ℕ) → ((i k : ℕ) → slice_get ks i ≡ Some k → (con : ConDecl Term) × (con_decl g k ≡ Some con))
        → ((c : ℕ) (con : ConDecl Term) (ss : List Solution) (b : Branch Term) → con_decl g c ≡ Some con → U (con_context a c con.args) (index_equations a con) (UnifiedBy ss b) → Covered (joined (opened n a c con.args) b))
        → (w : Result (ConBranches Term)) × Branches g no_solutions fuel U f qs n a ks w
    branches_total n a [] known h = (_, V.no_con)
    branches_total n a (k ∷ ks) known h =
        let c = known 0 k refl in
        let u = unifies (con_context a k c.0.args) (index_equations a c.0) in
        let x = branched_total n a k c.0 u.0 ks (λ ss b e. h k c.0 ss b c.1 (transport (U (con_context a k c.0.args) (index_equations a c.0)) e u.1)) (branches_total n a ks (λ i. known (suc i)) h) in
        (x.0, V.on_con c.1 u.1 x.1)

    rejected_total : (n : Node) (a : Splitting) (u : Unified) (ks : List ℕ) → (w : Result Unit) × NoneLeft g no_solutions fuel U f qs n a ks w → (w : Result Unit) × Rejected g no_solutions fuel U f qs n a u ks w
    rejected_total n a (UnifiedBy ss b) ks x = (_, V.not_refuted)
    rejected_total n a N.NeverUnified ks x = (_, V.is_refuted x.1)
    rejected_total n a (N.StuckAt t u) ks x = (_, V.is_stuck)
    rejected_total n a N.NoFuel ks x = (_, V.out_of_fuel)
    rejected_total n a N.NoDepth ks x = (_, V.out_of_depth)

    none_total : (n : Node) (a : Splitting) (ks : List ℕ) → ((i k : ℕ) → slice_get ks i ≡ Some k → (con : ConDecl Term) × (con_decl g k ≡ Some con)) → (w : Result Unit) × NoneLeft g no_solutions fuel U f qs n a ks w
    none_total n a [] known = (_, V.none_left)
    none_total n a (k ∷ ks) known =
        let c = known 0 k refl in
        let u = unifies (con_context a k c.0.args) (index_equations a c.0) in
        let x = rejected_total n a u.0 ks (none_total n a ks (λ i. known (suc i))) in
        (x.0, V.next_con c.1 u.1 x.1)

    built_total : (n : Node) (a : Asked) (p : Plan) → For g n a p → ((n' : Node) → Below g no_solutions fuel U f qs n p n' → Covered n') → (w : Result (Tree Term)) × Built g no_solutions fuel U f qs n p w
    built_total n a (Fails e) x h = (_, V.fails)
    built_total n a (Ends i t) x h = (_, V.ends)
    built_total n a (Takes b y s t) x h = let c = h _ E.takes in (_, V.takes c.1)
    built_total n a (Shows d decl us) x h = let c = fields_total n (reverse us) (fields_of g d) decl.fields (fields_known g d decl x.1) (λ k t. h _ (E.shows k t)) in (_, V.shows c.1)
    built_total n a (Splits k d ps is) x h = let c = branches_total n (splitting_at g no_solutions fuel U f qs n k ps is) (cons_of g d) (cons_known g d) (λ c con ss b e u. h _ (E.splits c con ss b e u)) in (_, V.splits c.1)
    built_total n a (Opens k d c decl ps) x h = let q = cons_known g d 0 c x.1.first in let y = h _ (E.opens q.0 q.1) in (_, V.opens q.1 y.1)
    built_total n a (Rejects k d ps is) x h = let c = none_total n (splitting_at g no_solutions fuel U f qs n k ps is) (cons_of g d) (cons_known g d) in (_, V.rejects c.1)

    covered : (n : Node) → Terminates g no_solutions fuel U f qs n → Covered n
    covered n (terminates h) =
        let j = judges_total n.spine ready in
        let p = planned_total n (asked (length n.spine) qs j.0) (right_for (length n.spine) j.1) in
        let b = built_total n (asked (length n.spine) qs j.0) p.0 (plan_for g no_solutions fuel U f qs p.1) (λ n' x. covered n' (h n' (E.child j.1 p.1 x))) in
        (b.0, V.cover j.1 p.1 b.1)

    pub each_covered : (n : Node) → Covered n
    each_covered n = covered n (all_terminate g fuel U f qs n)
