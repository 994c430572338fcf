-- A tree that is accepted follows its clauses.
use Rattle.std.specs.Prelude.{◌≡◌, ℕ, ◌+◌, ◌-◌, Bool, true, false, eqb, cond, List, [], ◌∷◌, ◌++◌, length, Option, Some, None, refl, suc}
use Rattle.std.proofs.Common.{ap, sym, ◌∙◌, subst as transport, arith, eqb-true}
use Rattle.core_rules.specs.Term.{Term}
use Rattle.core_rules.specs.Substitution.{under}
use Rattle.core_rules.specs.Signature.{Signature, Telescope, Branch, Tree, CoBranches, ConBranches, Leaf, Intro, Cosplit, Split, RecordSplit, Absurd, OnField, Refuted, Goes, ConDecl, con_decl, con_branch, co_branch}
use Rattle.core_rules.specs.Elimination.{Elim, Arg, Field}
use Rattle.core_rules.specs.BoundedLaws.{no_solutions}
use Rattle.core_rules.specs.TypedTree.{Splitting, con_context, index_equations, into, new_con}
use Rattle.match_rules.specs.Matching.{Clause}
use Rattle.match_rules.specs.Covering as C
use Rattle.match_rules.specs.Covering.{Covers, elims_map}
use Rattle.core_rules.proofs.Heads.OneAnswer.{one_some}
use Rattle.core_rules.proofs.Trees.Scoped.{length-con_context}
use Rattle.cover_rules.specs.LeftSide.{Node, taken, opened}
use Rattle.core_rules.specs.UnifierAnswers.{Unified, Unifier, IsUnifier}
use Rattle.cover_rules.specs.CoverOf as V
use Rattle.cover_rules.specs.CoverOf.{Result, Done, Failed, result_map, Asked, asked, Plan, CoverOf, Built, Fields, Branches, Branched, splitting_at}
use Rattle.cover_rules.proofs.Plans.{For, plan_for}
use Rattle.cover_rules.proofs.Agrees.{DueFor, is_due}

map_map : (h k : Term → Term) (es : List Elim) → elims_map h (elims_map k es) ≡ elims_map (λ t. h (k t)) es
map_map h k [] = refl
map_map h k (Arg b t ∷ es) = ap (λ ds. Arg b (h (k t)) ∷ ds) (map_map h k es)
map_map h k (Field f ∷ es) = ap (λ ds. Field f ∷ ds) (map_map h k es)

one_more : (m : ℕ) → suc m ≡ m + 1
one_more m = omega arith

module _ (g : Signature Term) (fuel : ℕ) (U : Unifier) (is : IsUnifier g U) (f : ℕ) (qs : List Clause) where
  abbrev pub Sound : Node → Result (Tree Term) → Type 0
  Sound n (Done T) = Covers g qs (length n.context) n.spine T
  Sound n (Failed e) = Unit {0}

  abbrev SoundFields : Node → Result (CoBranches Term) → Type 0
  SoundFields n (Done bs) = (h : ℕ) (T : Tree Term) → co_branch bs h ≡ Some T → Covers g qs (length n.context) (n.spine ++ Field h ∷ []) T
  SoundFields n (Failed e) = Unit {0}

  abbrev SoundBranches : Node → ℕ → List Term → Result (ConBranches Term) → Type 0
  SoundBranches n k ps (Done bs) = (c : ℕ) (con : ConDecl Term) (b : Branch Term) (T : Tree Term) → con_decl g c ≡ Some con → con_branch bs c ≡ Some (b, T)
      → Covers g qs (length b.keep) (elims_map (λ t. under b.values (under (into k (length n.context) (length con.args) (new_con c ps con.args)) t)) n.spine) T
  SoundBranches n k ps (Failed e) = Unit {0}

  by_asked : {a b : Asked} (n : Node) → a ≡ b → DueFor g fuel a qs n.spine → DueFor g fuel b qs n.spine
  by_asked n e d = transport (λ a. DueFor g fuel a qs n.spine) e d

  intro_sound : (n n' : Node) (w : Result (Tree Term)) → (length n'.context ≡ length n.context + 1) → ((T : Tree Term) → Covers g qs (length n.context + 1) n'.spine T → Covers g qs (length n.context) n.spine (Intro T)) → Sound n' w → Sound n (result_map Intro w)
  intro_sound n n' (Done T) e h x = h T (transport (λ m. Covers g qs m n'.spine T) e x)
  intro_sound n n' (Failed y) e h x = tt

  cosplit_sound : (n : Node) (w : Result (CoBranches Term)) → C.IsDue g qs n.spine C.NextField → SoundFields n w → Sound n (result_map Cosplit w)
  cosplit_sound n (Done bs) d x = C.fields d x
  cosplit_sound n (Failed y) d x = tt

  split_sound : (n : Node) (k : ℕ) (ps : List Term) (w : Result (ConBranches Term)) → C.IsDue g qs n.spine (C.SplitAt k) → SoundBranches n k ps w → Sound n (result_map (Split k) w)
  split_sound n k ps (Done bs) d x = C.splits ps d x
  split_sound n k ps (Failed y) d x = tt

  record_sound : (n n' : Node) (k d m : ℕ) (w : Result (Tree Term)) → length n'.context ≡ m → ((T : Tree Term) → Covers g qs m n'.spine T → Covers g qs (length n.context) n.spine (RecordSplit k d T)) → Sound n' w → Sound n (result_map (RecordSplit k d) w)
  record_sound n n' k d m (Done T) e h x = h T (transport (λ m. Covers g qs m n'.spine T) e x)
  record_sound n n' k d m (Failed y) e h x = tt

  absurd_sound : (n : Node) (k : ℕ) (w : Result Unit) → Sound n (result_map (λ u. Absurd k) w)
  absurd_sound n k (Done u) = C.absurds
  absurd_sound n k (Failed y) = tt

  fields_on : (n : Node) (h : ℕ) (T : Tree Term) (w : Result (CoBranches Term)) → Covers g qs (length n.context) (n.spine ++ Field h ∷ []) T → SoundFields n w → SoundFields n (result_map (OnField h T) w)
  fields_on n h T (Done bs) c x = λ i S e. by i S (eqb h i) refl e
    where
      by : (i : ℕ) (S : Tree Term) (b : Bool) → eqb h i ≡ b → cond b (Some T) (co_branch bs i) ≡ Some S → Covers g qs (length n.context) (n.spine ++ Field i ∷ []) S
      by i S true q e = transport (λ S. Covers g qs (length n.context) (n.spine ++ Field i ∷ []) S) (one_some e) (transport (λ i. Covers g qs (length n.context) (n.spine ++ Field i ∷ []) T) (eqb-true h i q) c)
      by i S false q e = x i S e
  fields_on n h T (Failed y) c x = tt

  branches_on : (n : Node) (k : ℕ) (ps : List Term) (c : ℕ) (con : ConDecl Term) (b : Branch Term) (T : Tree Term) (w : Result (ConBranches Term)) → con_decl g c ≡ Some con
      → Covers g qs (length b.keep) (elims_map (λ t. under b.values (under (into k (length n.context) (length con.args) (new_con c ps con.args)) t)) n.spine) T
      → SoundBranches n k ps w → SoundBranches n k ps (result_map (Goes c b T) w)
  branches_on n k ps c con b T (Done bs) d v x = λ i con' b' T' e q. by i con' b' T' e (eqb c i) refl q
    where
      same : {b b' : Branch Term} {T T' : Tree Term} → ◌≡◌ {A = Option (Branch Term × Tree Term)} (Some (b, T)) (Some (b', T')) → (b ≡ b') × (T ≡ T')
      same e = let x = one_some e in (ap (λ p. p.0) x, ap (λ p. p.1) x)

      by : (i : ℕ) (con' : ConDecl Term) (b' : Branch Term) (T' : Tree Term) → con_decl g i ≡ Some con' → (y : Bool) → eqb c i ≡ y → cond y (Some (b, T)) (con_branch bs i) ≡ Some (b', T')
          → Covers g qs (length b'.keep) (elims_map (λ t. under b'.values (under (into k (length n.context) (length con'.args) (new_con i ps con'.args)) t)) n.spine) T'
      by i con' b' T' e false q r = x i con' b' T' e r
      by i con' b' T' e true q r =
          let p = eqb-true c i q in
          let z = same r in
          let o : con ≡ con' = one_some (sym d ∙ (ap (con_decl g) p ∙ e)) in
          transport (λ b. Covers g qs (length b.keep) (elims_map (λ t. under b.values (under (into k (length n.context) (length con'.args) (new_con i ps con'.args)) t)) n.spine) T') z.0
          (transport (λ T. Covers g qs (length b.keep) (elims_map (λ t. under b.values (under (into k (length n.context) (length con'.args) (new_con i ps con'.args)) t)) n.spine) T) z.1
          (transport (λ i. Covers g qs (length b.keep) (elims_map (λ t. under b.values (under (into k (length n.context) (length con'.args) (new_con i ps con'.args)) t)) n.spine) T) p
          (transport (λ con. Covers g qs (length b.keep) (elims_map (λ t. under b.values (under (into k (length n.context) (length con.args) (new_con c ps con.args)) t)) n.spine) T) o v)))
  branches_on n k ps c con b T (Failed y) d v x = tt

  refuted_on : (n : Node) (k : ℕ) (ps : List Term) (c : ℕ) (w : Result (ConBranches Term)) → SoundBranches n k ps w → SoundBranches n k ps (result_map (Refuted c) w)
  refuted_on n k ps c (Done bs) x = λ i con b T e q. by i con b T e (eqb c i) q
    where
      by : (i : ℕ) (con : ConDecl Term) (b : Branch Term) (T : Tree Term) → con_decl g i ≡ Some con → (y : Bool) → cond y None (con_branch bs i) ≡ Some (b, T)
          → Covers g qs (length b.keep) (elims_map (λ t. under b.values (under (into k (length n.context) (length con.args) (new_con i ps con.args)) t)) n.spine) T
      by i con b T e true q = absurd cc
      by i con b T e false q = x i con b T e q
  refuted_on n k ps c (Failed y) x = tt

  mutual
    pub cover_sound : {n : Node} {w : Result (Tree Term)} → CoverOf g no_solutions fuel U f qs n w → Sound n w
    cover_sound {n} (V.cover j a b) = built_sound _ b (plan_for g no_solutions fuel U f qs a) (is_due g fuel U f qs (length n.spine) j)

    built_sound : {n : Node} {p : Plan} {w : Result (Tree Term)} (a : Asked) → Built g no_solutions fuel U f qs n p w → For g n a p → DueFor g fuel a qs n.spine → Sound n w
    built_sound a V.fails x d = tt
    built_sound {n} a (V.ends {i = i}) x d = transport (λ t. Covers g qs (length n.context) n.spine (Leaf t i)) (sym x.is) (C.ends (by_asked n x.asked d) x.is_right)
    built_sound {n} a (V.takes {b = b} {x = y} {a = s} {t = t} {w = w} c) x d = intro_sound n (taken n b y s t) w (one_more (length n.context)) (λ T v. C.next b (by_asked n x d) v) (cover_sound c)
    built_sound {n} a (V.shows {w = w} c) x d = cosplit_sound n w (by_asked n x.0 d) (fields_sound c)
    built_sound {n} a (V.splits {k = k} {ps = ps} {is = us} {w = w} c) x d = split_sound n k ps w (by_asked n x d) (branches_sound c refl)
    built_sound {n} a (V.opens {k = k} {d = e} {c = i} {decl = decl} {ps = ps} {con = con} {w = w} q c) x d =
        record_sound n (opened n (splitting_at g no_solutions fuel U f qs n k ps []) i con.args) k e (length n.context + length con.args - 1) w (length-con_context (splitting_at g no_solutions fuel U f qs n k ps []) i con.args x.1.inside)
        (λ T v. C.record_splits ps (record { decl = decl; con = con; is_decl = x.1.is_decl; is_con = q; place = x.1.place; eta = x.1.eta }) (by_asked n x.0 d) v) (cover_sound c)
    built_sound {n} a (V.rejects {k = k} {w = w} c) x d = absurd_sound n k w

    fields_sound : {n : Node} {r : List Term} {hs : List ℕ} {es : Telescope Term} {w : Result (CoBranches Term)} → Fields g no_solutions fuel U f qs n r hs es w → SoundFields n w
    fields_sound V.no_field = λ h T e. absurd cc
    fields_sound {n} (V.on_field {h = h} {T = T} {w = w} c cs) = fields_on n h T w (cover_sound c) (fields_sound cs)
    fields_sound (V.not_on_field c) = tt

    branches_sound : {n : Node} {a : Splitting} {k : ℕ} {ps us : List Term} {ks : List ℕ} {w : Result (ConBranches Term)} → Branches g no_solutions fuel U f qs n a ks w → a ≡ splitting_at g no_solutions fuel U f qs n k ps us → SoundBranches n k ps w
    branches_sound V.no_con q = λ c con b T e r. absurd cc
    branches_sound (V.on_con e h b) q = branched_sound b q e h

    branched_sound : {n : Node} {a : Splitting} {k i : ℕ} {ps us : List Term} {con : ConDecl Term} {u : Unified} {ks : List ℕ} {w : Result (ConBranches Term)} → Branched g no_solutions fuel U f qs n a i con u ks w → a ≡ splitting_at g no_solutions fuel U f qs n k ps us
        → con_decl g i ≡ Some con → U (con_context a i con.args) (index_equations a con) u → SoundBranches n k ps w
    branched_sound {n} {k = k} {ps = ps} (V.refuted {k = i} {w = w} c) q e h = refuted_on n k ps i w (branches_sound c q)
    branched_sound {n} {a} {k = k} {ps = ps} (V.goes {k = i} {con = con} {ss = ss} {b = b} {T = T} {w = w} c cs) q e h =
        let m = (is.unified _ _ ss b h).joins.as_many in
        let v = cover_sound c in
        let v' = transport (λ m. Covers g qs m (elims_map (under b.values) (opened n a i con.args).spine) T) (sym m) v in
        let v'' = transport (λ ls. Covers g qs (length b.keep) ls T) (map_map (under b.values) (λ t. under (into a.var (length n.context) (length con.args) (new_con i a.params con.args)) t) n.spine) v' in
        branches_on n k ps i con b T w e
        (transport (λ a. Covers g qs (length b.keep) (elims_map (λ t. under b.values (under (into a.var (length n.context) (length con.args) (new_con i a.params con.args)) t)) n.spine) T) q v'')
        (branches_sound cs q)
    branched_sound (V.not_built c) q e h = tt
    branched_sound V.stuck q e h = tt
    branched_sound V.no_fuel q e h = tt
    branched_sound V.no_depth q e h = tt
