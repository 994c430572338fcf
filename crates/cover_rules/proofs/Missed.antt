-- Missing carries a left side that is reached, where each clause clashes.
use Rattle.std.specs.Prelude.{◌≡◌, ℕ, Bool, true, false, cond, List, length, Option, Some, None, suc}
use Rattle.core_rules.specs.Term.{Term}
use Rattle.core_rules.specs.Signature.{Signature, Telescope, Branch, Tree, CoBranches, ConBranches, Intro, Cosplit, Split, RecordSplit, Absurd, OnField, Refuted, Goes, ConDecl, CheckedLeft, con_decl}
use Rattle.core_rules.specs.Elimination.{Elim}
use Rattle.core_rules.specs.Heads.{Solutions}
use Rattle.core_rules.specs.Unification.{Solution}
use Rattle.core_rules.specs.TypedTree.{Splitting, con_context, index_equations}
use Rattle.match_rules.specs.Matching.{NoShape, AndShape, Clause}
use Rattle.cover_rules.specs.LeftSide.{Node, left_of, joined, opened, projected}
use Rattle.cover_rules.specs.Looking as L
use Rattle.cover_rules.specs.Looking.{Look, Yes, Halts, Clash}
use Rattle.core_rules.specs.UnifierAnswers.{Unified, UnifiedBy, Unifier}
use Rattle.cover_rules.specs.CoverOf as V
use Rattle.cover_rules.specs.CoverOf.{CoverError, Missing, Result, Done, Failed, result_map, Asked, NoClause, NoFuelLeft, NotOneKind, Kind, by_kind, kind_of, all_next, asked, asked_of, Plan, Fails, Ends, Takes, Shows, Splits, Opens, Rejects, Judges, CoverOf, Built, Fields, Branches, Branched, NoneLeft, Rejected}
use Rattle.cover_rules.specs.Ending as E
use Rattle.cover_rules.specs.Ending.{Below, Child, Reaches}
use Rattle.cover_rules.specs.Laws as W
use Rattle.cover_rules.specs.Laws.{AllClash}
use Rattle.cover_rules.proofs.Plans.{For, plan_for}

no_kind : {X : Type 0} (k : Kind) → by_kind k ≡ NoClause → X
no_kind V.Argument e = absurd cc
no_kind V.Projection e = absurd cc
no_kind V.End e = absurd cc

no_next : {X : Type 0} (b : Bool) (k : Kind) → cond b (by_kind k) NotOneKind ≡ NoClause → X
no_next true k e = no_kind k e
no_next false k e = absurd cc

module _ (g : Signature Term) (s : Solutions) (fuel : ℕ) (U : Unifier) (f : ℕ) (qs : List Clause) where
  abbrev asked_by : ℕ → ℕ → List Clause → Option (List Look) → Asked
  asked_by i n ps None = NoFuelLeft
  asked_by i n ps (Some ws) = asked_of i n ps ws

  clashes : (i n : ℕ) {ps : List Clause} {ls : List Elim} {o : Option (List Look)} → Judges g s fuel U f qs ps ls o → asked_by i n ps o ≡ NoClause → AllClash g s fuel ps ls
  clashes i n V.none e = W.none
  clashes i n (V.one {w = Halts Clash} {o = Some ws} a j) e = W.one a (clashes (suc i) n j e)
  clashes i n (V.one {w = Halts Clash} {o = None} a j) e = absurd cc
  clashes i n (V.one {w = Yes σ rs} {o = None} a j) e = absurd cc
  clashes i n (V.one {w = Yes σ NoShape} {o = Some ws} a j) e = absurd cc
  clashes i n (V.one {ps = ps} {w = Yes σ (AndShape p rs)} {o = Some ws} a j) e = no_next (all_next (kind_of p) n ps ws) (kind_of p) e
  clashes i n (V.one {w = Halts (L.At k)} {o = None} a j) e = absurd cc
  clashes i n (V.one {w = Halts (L.At k)} {o = Some ws} a j) e = absurd cc
  clashes i n (V.one {w = Halts (L.RecordAt k)} {o = None} a j) e = absurd cc
  clashes i n (V.one {w = Halts (L.RecordAt k)} {o = Some ws} a j) e = absurd cc
  clashes i n (V.one {w = Halts (L.NothingAt k)} {o = None} a j) e = absurd cc
  clashes i n (V.one {w = Halts (L.NothingAt k)} {o = Some ws} a j) e = absurd cc
  clashes i n (V.one {w = Halts L.Unable} {o = None} a j) e = absurd cc
  clashes i n (V.one {w = Halts L.Unable} {o = Some ws} a j) e = absurd cc
  clashes i n (V.one {w = Halts L.Odd} {o = None} a j) e = absurd cc
  clashes i n (V.one {w = Halts L.Odd} {o = Some ws} a j) e = absurd cc
  clashes i n (V.one {w = Halts L.Spent} a j) e = absurd cc

  all_clash : (n : ℕ) {ls : List Elim} {o : Option (List Look)} → Judges g s fuel U f qs qs ls o → asked n qs o ≡ NoClause → AllClash g s fuel qs ls
  all_clash n {o = None} j e = absurd cc
  all_clash n {o = Some ws} j e = clashes 0 n j e

  from_child : {n n' m : Node} → Child g s fuel U f qs n n' → Reaches g s fuel U f qs n' m → Reaches g s fuel U f qs n m
  from_child c E.here = E.further E.here c
  from_child c (E.further r d) = E.further (from_child c r) d

  abbrev pub Missed : Node → CheckedLeft Term → Type 0
  Missed n l = (m : Node) × Reaches g s fuel U f qs n m × (l ≡ left_of m) × AllClash g s fuel qs m.spine

  abbrev MissedBy : Node → CoverError → Type 0
  MissedBy n (Missing l) = Missed n l
  MissedBy n V.Mixed = Unit {0}
  MissedBy n V.CannotSplit = Unit {0}
  MissedBy n (V.UnifyStuck t u) = Unit {0}
  MissedBy n V.OutOfFuel = Unit {0}
  MissedBy n V.OutOfDepth = Unit {0}

  abbrev MissedIn : {A : Type 0} → Node → Result A → Type 0
  MissedIn n (Done t) = Unit {0}
  MissedIn n (Failed e) = MissedBy n e

  mapped : {A B : Type 0} (n : Node) (h : A → B) (w : Result A) → MissedIn n w → MissedIn n (result_map h w)
  mapped n h (Done t) x = tt
  mapped n h (Failed e) x = x

  lift_by : {n n' : Node} (e : CoverError) → Child g s fuel U f qs n n' → MissedBy n' e → MissedBy n e
  lift_by (Missing l) c x = (x.0, from_child c x.1, x.2, x.3)
  lift_by V.Mixed c x = tt
  lift_by V.CannotSplit c x = tt
  lift_by (V.UnifyStuck t u) c x = tt
  lift_by V.OutOfFuel c x = tt
  lift_by V.OutOfDepth c x = tt

  lift : {A : Type 0} {n n' : Node} (w : Result A) → Child g s fuel U f qs n n' → MissedIn n' w → MissedIn n w
  lift (Done t) c x = tt
  lift (Failed e) c x = lift_by e c x

  abbrev FailsBy : Node → Plan → Type 0
  FailsBy n (Fails e) = MissedBy n e
  FailsBy n (Ends i t) = Unit {0}
  FailsBy n (Takes b x a t) = Unit {0}
  FailsBy n (Shows d decl us) = Unit {0}
  FailsBy n (Splits k d ps is) = Unit {0}
  FailsBy n (Opens k d c decl ps) = Unit {0}
  FailsBy n (Rejects k d ps is) = Unit {0}

  fails_by : (n : Node) (p : Plan) {o : Option (List Look)} → Judges g s fuel U f qs qs n.spine o → For g n (asked (length n.spine) qs o) p → FailsBy n p
  fails_by n (Fails (Missing l)) j a = (n, E.here, a.1, all_clash (length n.spine) j a.0)
  fails_by n (Fails V.Mixed) j a = tt
  fails_by n (Fails V.CannotSplit) j a = tt
  fails_by n (Fails (V.UnifyStuck t u)) j a = tt
  fails_by n (Fails V.OutOfFuel) j a = tt
  fails_by n (Fails V.OutOfDepth) j a = tt
  fails_by n (Ends i t) j a = tt
  fails_by n (Takes b x y t) j a = tt
  fails_by n (Shows d decl us) j a = tt
  fails_by n (Splits k d ps is) j a = tt
  fails_by n (Opens k d c decl ps) j a = tt
  fails_by n (Rejects k d ps is) j a = tt

  mutual
    pub cover_missed : {n : Node} {w : Result (Tree Term)} → CoverOf g s fuel U f qs n w → MissedIn n w
    cover_missed {n} (V.cover {p = p} j a b) = built_missed b (λ n' x. E.child j a x) (fails_by n p j (plan_for g s fuel U f qs a))

    built_missed : {n : Node} {p : Plan} {w : Result (Tree Term)} → Built g s fuel U f qs n p w → ((n' : Node) → Below g s fuel U f qs n p n' → Child g s fuel U f qs n n') → FailsBy n p → MissedIn n w
    built_missed V.fails step x = x
    built_missed V.ends step x = tt
    built_missed {n} (V.takes {w = w} c) step x = mapped n Intro w (lift w (step _ E.takes) (cover_missed c))
    built_missed {n} (V.shows {w = w} c) step x = mapped n Cosplit w (fields_missed c (λ h t. step _ (E.shows h t)))
    built_missed {n} (V.splits {k = k} {w = w} c) step x = mapped n (Split k) w (branches_missed c (λ i con ss b e u. step _ (E.splits i con ss b e u)))
    built_missed {n} (V.opens {k = k} {d = d} {con = con} {w = w} e c) step x = mapped n (RecordSplit k d) w (lift w (step _ (E.opens con e)) (cover_missed c))
    built_missed {n} (V.rejects {k = k} {w = w} c) step x = mapped n (λ u. Absurd k) w (none_missed c)

    fields_missed : {n : Node} {r : List Term} {hs : List ℕ} {es : Telescope Term} {w : Result (CoBranches Term)} → Fields g s fuel U f qs n r hs es w → ((h : ℕ) (t : Term) → Child g s fuel U f qs n (projected n h t)) → MissedIn n w
    fields_missed V.no_field step = tt
    fields_missed {n} (V.on_field {h = h} {T = T} {w = w} c cs) step = mapped n (OnField h T) w (fields_missed cs step)
    fields_missed (V.not_on_field {x = x} c) step = lift_by x (step _ _) (cover_missed c)

    branches_missed : {n : Node} {a : Splitting} {ks : List ℕ} {w : Result (ConBranches Term)} → Branches g s fuel U f qs n a ks w
        → ((c : ℕ) (con : ConDecl Term) (ss : List Solution) (b : Branch Term) → con_decl g c ≡ Some con → U (con_context a c con.args) (index_equations a con) (UnifiedBy ss b) → Child g s fuel U f qs n (joined (opened n a c con.args) b)) → MissedIn n w
    branches_missed V.no_con step = tt
    branches_missed (V.on_con e h b) step = branched_missed b e h step

    branched_missed : {n : Node} {a : Splitting} {k : ℕ} {con : ConDecl Term} {u : Unified} {ks : List ℕ} {w : Result (ConBranches Term)} → Branched g s fuel U f qs n a k con u ks w → con_decl g k ≡ Some con → U (con_context a k con.args) (index_equations a con) u
        → ((c : ℕ) (con : ConDecl Term) (ss : List Solution) (b : Branch Term) → con_decl g c ≡ Some con → U (con_context a c con.args) (index_equations a con) (UnifiedBy ss b) → Child g s fuel U f qs n (joined (opened n a c con.args) b)) → MissedIn n w
    branched_missed {n} (V.refuted {k = k} {w = w} c) e h step = mapped n (Refuted k) w (branches_missed c step)
    branched_missed {n} (V.goes {k = k} {b = b} {T = T} {w = w} c cs) e h step = mapped n (Goes k b T) w (branches_missed cs step)
    branched_missed (V.not_built {k = k} {con = con} {ss = ss} {b = b} {x = x} c) e h step = lift_by x (step k con ss b e h) (cover_missed c)
    branched_missed V.stuck e h step = tt
    branched_missed V.no_fuel e h step = tt
    branched_missed V.no_depth e h step = tt

    none_missed : {n : Node} {a : Splitting} {ks : List ℕ} {w : Result Unit} → NoneLeft g s fuel U f qs n a ks w → MissedIn n w
    none_missed V.none_left = tt
    none_missed (V.next_con e h b) = rejected_missed b

    rejected_missed : {n : Node} {a : Splitting} {u : Unified} {ks : List ℕ} {w : Result Unit} → Rejected g s fuel U f qs n a u ks w → MissedIn n w
    rejected_missed (V.is_refuted c) = none_missed c
    rejected_missed V.not_refuted = tt
    rejected_missed V.is_stuck = tt
    rejected_missed V.out_of_fuel = tt
    rejected_missed V.out_of_depth = tt

  pub missing : (n : Node) (l : CheckedLeft Term) → CoverOf g s fuel U f qs n (Failed (Missing l)) → Missed n l
  missing n l c = cover_missed c
