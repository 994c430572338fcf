-- The rank falls from a left side to each one below it, so covering ends.
use Rattle.std.specs.Prelude.{◌≡◌, ℕ, ◌+◌, ◌-◌, ◌<◌, ◌⊎◌, Bool, true, false, cond, List, [], ◌∷◌, ◌++◌, length, map, get_or, Option, Some, None, refl, zero, suc}
use Rattle.std.proofs.Common.{ap, sym, ◌∙◌, subst as transport, append-nil, arith}
use mathlib.Core.Logic.{inl, inr}
use Rattle.core_rules.specs.Term.{Term, Var, Sort, Con, from_list}
use Rattle.core_rules.specs.Substitution.{over, shift, shift_var, env_var}
use Rattle.core_rules.specs.Signature.{Signature, Telescope, numbers}
use Rattle.core_rules.specs.Elimination.{Elim, Arg, Field, args, vars_from, elims_over}
use Rattle.core_rules.specs.Heads.{taken}
use Rattle.core_rules.specs.BoundedLaws.{no_solutions}
use Rattle.core_rules.specs.Laws.{IsLifted}
use Rattle.core_rules.specs.TypedTree.{Splitting, into, new_con}
use Rattle.match_rules.specs.Matching.{Shape, Shapes, NoShape, AndShape, Clause, Bound, HasHead}
use Rattle.match_rules.specs.Covering.{elims_map}
use Rattle.core_rules.proofs.Substitution.Changes.{shift_lifted, env_lifted}
use Rattle.match_rules.proofs.Cover.Values.{under-var}
use Rattle.match_rules.proofs.Cover.Comes as K
use Rattle.match_rules.proofs.Cover.Comes.{to_head, comes_out}
use Rattle.cover_rules.specs.LeftSide.{Node, opened}
use Rattle.cover_rules.specs.Looking as L
use Rattle.cover_rules.specs.Looking.{Clash, At, RecordAt, Look, Yes, Halts, after, Faces, Constructor, LooksAll}
use Rattle.core_rules.specs.UnifierAnswers.{Unifier}
use Rattle.cover_rules.specs.CoverOf as V
use Rattle.cover_rules.specs.CoverOf.{Asked, AnArgument, AProjection, ASplit, ARecordSplit, AnAbsurd, NoClause, NotOneKind, NoFuelLeft, asked, asked_of, look_first, by_kind, kind_of, all_next, Kind, Plan, Judges, splitting_at}
use Rattle.cover_rules.specs.Ending as E
use Rattle.cover_rules.specs.Ending.{size, sizes, Ranks, RankOf, Below, Child, Terminates, terminates}
use Rattle.cover_rules.proofs.Faces.{faces_out, stays}
use Rattle.cover_rules.proofs.Plans.{For, plan_for}
use Rattle.cover_rules.proofs.Rank.{Lower, ranks_more, rank_full, ranks_full, head-over, ranks-over, Shown, all_falls}

map_over : (f : ℕ → ℕ → Term) (es : List Elim) → elims_map (λ t. over f 0 t) es ≡ elims_over f 0 es
map_over f [] = refl
map_over f (Arg b t ∷ es) = ap (λ ds. Arg b (over f 0 t) ∷ ds) (map_over f es)
map_over f (Field k ∷ es) = ap (λ ds. Field k ∷ ds) (map_over f es)

-- What a split puts for its variable

at_place : (a k : ℕ) (t : Term) (ts : List Term) → get_or (map Var (numbers a k) ++ t ∷ ts) k (Sort 0) ≡ t
at_place a zero t ts = refl
at_place a (suc k) t ts = at_place (a + 1) k t ts

into_at : (k n m : ℕ) (u : Term) → env_var (into k n m u) 0 k ≡ shift u 0 k
into_at k n m u = under-var (into k n m u) k ∙ at_place 0 k (shift u 0 k) (map Var (numbers (k + m) (n - (k + 1))))

module _ (g : Signature Term) where
  none_taken : (k : ℕ) (us : List Term) (es : Telescope Term) (ts : List Term) → taken g k us (args es ts) ≡ None
  none_taken k us [] ts = refl
  none_taken k us (e ∷ es) [] = refl
  none_taken k us (e ∷ es) (t ∷ ts) = none_taken k (us ++ t ∷ []) es ts

  made_head : (c k : ℕ) (ps : List Term) (es : Telescope Term) → (ds : List Elim) × HasHead g (shift (new_con c ps es) 0 k) c ds
  made_head c k ps es =
      let qs = from_list (map (λ t. shift t 0 (length es)) ps) in
      let vs = args es (vars_from 0 (length es)) in
      let x : HasHead g (new_con c ps es) c (vs ++ []) = to_head g (comes_out g (Con c qs) vs (K.stop (ap (taken g c []) (append-nil vs) ∙ none_taken c [] es (vars_from 0 (length es))))) in
      (_, head-over g (shift_var 0 k) (shift_lifted 0 k) 0 x)

  made_face : (c k : ℕ) (ps : List Term) (es : Telescope Term) → (ds : List Elim) × Faces no_solutions (shift (new_con c ps es) 0 k) [] (Constructor c ds)
  made_face c k ps es =
      let qs = from_list (map (λ t. shift t 0 (length es)) ps) in
      let vs = args es (vars_from 0 (length es)) in
      let x : Faces no_solutions (new_con c ps es) [] (Constructor c (vs ++ [])) = faces_out (Con c qs) vs L.constructor in
      (_, stays (shift_var 0 k) 0 (Constructor c (vs ++ [])) x)

  -- The rank over all clauses

  rank_of_by : {ls ls' : List Elim} → ((ps : Shapes) (n : ℕ) → Ranks g ps ls n → Ranks g ps ls' n) → {qs : List Clause} {n : ℕ} → RankOf g qs ls n → RankOf g qs ls' n
  rank_of_by h E.none = E.none
  rank_of_by h (E.one {q = q} r rs l) = E.one (h q.shapes _ r) (rank_of_by h rs) l

  rank_of_full : (qs : List Clause) (ls : List Elim) → (n : ℕ) × RankOf g qs ls n
  rank_of_full [] ls = (0, E.none)
  rank_of_full (q ∷ qs) ls = let x = rank_of_full qs ls in (sizes q.shapes + x.0, E.one (ranks_full g q.shapes ls) x.1 (omega arith))

  -- a further elimination
  ranks_next : (e : Elim) {ps : Shapes} {ls : List Elim} {n : ℕ} → Ranks g ps ls n → Ranks g ps (ls ++ e ∷ []) n
  ranks_next e E.none = E.none
  ranks_next e {ps} (E.ahead l) = ranks_more g l (ranks_full g ps (e ∷ []))
  ranks_next e (E.arg r rs l) = E.arg r (ranks_next e rs) l
  ranks_next e (E.field r) = E.field (ranks_next e r)

  -- there are more patterns than eliminations
  data Past : Shapes → List Elim → Type 0 where
    here : {p : Shape} {ps : Shapes} → Past (AndShape p ps) []
    further : {p : Shape} {ps : Shapes} {e : Elim} {ls : List Elim} → Past ps ls → Past (AndShape p ps) (e ∷ ls)

  past_over : (f : ℕ → ℕ → Term) {ps : Shapes} {ls : List Elim} → Past ps ls → Past ps (elims_over f 0 ls)
  past_over f here = here
  past_over f (further p) = further (past_over f p)

  past_falls : (e : Elim) {ps : Shapes} {ls : List Elim} {n : ℕ} → Past ps ls → Ranks g ps ls n → Lower (Ranks g ps (ls ++ e ∷ [])) n
  past_falls (Arg b t) (here {p = p} {ps = ps}) (E.ahead l) = record { rank = size p + sizes ps; less = omega (arith, l); holds = E.arg (rank_full g p t) (ranks_full g ps []) (omega arith) }
  past_falls (Field k) (here {p = p} {ps = ps}) (E.ahead l) = record { rank = sizes ps; less = omega (arith, l); holds = E.field (ranks_full g ps []) }
  past_falls e (further p) (E.arg {i = i} r rs l) = let x = past_falls e p rs in record { rank = i + x.rank; less = let y = x.less in omega (arith, l, y); holds = E.arg r x.holds (omega arith) }
  past_falls e (further p) (E.field r) = let x = past_falls e p r in record { rank = x.rank; less = x.less; holds = E.field x.holds }

  module _ (fuel : ℕ) where
    -- a clause that matches with patterns left
    abbrev GoesOn : Look → Type 0
    GoesOn (Yes σ NoShape) = ⊥
    GoesOn (Yes σ (AndShape p ps)) = Unit {0}
    GoesOn (Halts y) = ⊥

    goes_after : (σ : Bound) (w : Look) → GoesOn (after σ w) → GoesOn w
    goes_after σ (Yes τ NoShape) s = s
    goes_after σ (Yes τ (AndShape p ps)) s = s
    goes_after σ (Halts y) s = s

    is_past : {ps : Shapes} {ls : List Elim} {w : Look} → LooksAll g no_solutions fuel ps ls w → GoesOn w → Past ps ls
    is_past (L.end {ps = NoShape}) s = absurd s
    is_past (L.end {ps = AndShape p ps}) s = here
    is_past L.too_many s = absurd s
    is_past (L.arg {σ = σ} {w = w} c cs) s = further (is_past cs (goes_after σ w s))
    is_past (L.arg_halts c) s = absurd s
    is_past (L.field e c) s = further (is_past c s)
    is_past (L.other_field n) s = absurd s
    is_past (L.no_field i) s = absurd s

    module _ (U : Unifier) (f : ℕ) (qs : List Clause) where
      -- K is known of what is asked, and so H of the look of the clause that asks it
      module _ (K : Asked → Type 0) (H : Look → Type 0) (no_clause : K NoClause → ⊥) (no_fuel : K NoFuelLeft → ⊥)
          (asks : (i n : ℕ) (q : Clause) (ps : List Clause) (w : Look) (ws : List Look) → K (asked_of i n (q ∷ ps) (w ∷ ws)) → H w ⊎ ((w ≡ Halts Clash) × K (asked_of (suc i) n ps ws)))
          (ls ls' : List Elim) (stay : (ps : Shapes) (n : ℕ) → Ranks g ps ls n → Ranks g ps ls' n)
          (fall : (ps : Shapes) (n : ℕ) (w : Look) → LooksAll g no_solutions fuel ps ls w → H w → Ranks g ps ls n → Lower (Ranks g ps ls') n) where
        abbrev asked_by : ℕ → ℕ → List Clause → Option (List Look) → Asked
        asked_by i n ps None = NoFuelLeft
        asked_by i n ps (Some ws) = asked_of i n ps ws

        asks_by : (i n : ℕ) (q : Clause) (ps : List Clause) (w : Look) (o : Option (List Look)) → K (asked_by i n (q ∷ ps) (look_first w o)) → H w ⊎ ((w ≡ Halts Clash) × K (asked_by (suc i) n ps o))
        asks_by i n q ps (Yes σ rs) None k = absurd (no_fuel k)
        asks_by i n q ps (Yes σ rs) (Some ws) k = asks i n q ps (Yes σ rs) ws k
        asks_by i n q ps (Halts Clash) None k = absurd (no_fuel k)
        asks_by i n q ps (Halts Clash) (Some ws) k = asks i n q ps (Halts Clash) ws k
        asks_by i n q ps (Halts (At j)) None k = absurd (no_fuel k)
        asks_by i n q ps (Halts (At j)) (Some ws) k = asks i n q ps (Halts (At j)) ws k
        asks_by i n q ps (Halts (RecordAt j)) None k = absurd (no_fuel k)
        asks_by i n q ps (Halts (RecordAt j)) (Some ws) k = asks i n q ps (Halts (RecordAt j)) ws k
        asks_by i n q ps (Halts (L.NothingAt j)) None k = absurd (no_fuel k)
        asks_by i n q ps (Halts (L.NothingAt j)) (Some ws) k = asks i n q ps (Halts (L.NothingAt j)) ws k
        asks_by i n q ps (Halts L.Unable) None k = absurd (no_fuel k)
        asks_by i n q ps (Halts L.Unable) (Some ws) k = asks i n q ps (Halts L.Unable) ws k
        asks_by i n q ps (Halts L.Odd) None k = absurd (no_fuel k)
        asks_by i n q ps (Halts L.Odd) (Some ws) k = asks i n q ps (Halts L.Odd) ws k
        asks_by i n q ps (Halts L.Spent) o k = absurd (no_fuel k)

        due_falls : (i n : ℕ) {ps : List Clause} {o : Option (List Look)} {r : ℕ} → Judges g no_solutions fuel U f qs ps ls o → K (asked_by i n ps o) → RankOf g ps ls r → Lower (RankOf g ps ls') r
        due_falls i n V.none k r = absurd (no_clause k)
        due_falls i n {r = r} (V.one {p = q} {ps = ps} {w = w} {o = o} a j) k (E.one {i = m} {j = m'} x xs l) = by (λ k. due_falls (suc i) n j k xs) (asks_by i n q ps w o k)
          where
            by : (K (asked_by (suc i) n ps o) → Lower (RankOf g ps ls') m') → H w ⊎ ((w ≡ Halts Clash) × K (asked_by (suc i) n ps o)) → Lower (RankOf g (q ∷ ps) ls') r
            by rest (inl h) = let y = fall q.shapes m w a h x in record { rank = y.rank + m'; less = let z = y.less in omega (arith, l, z); holds = E.one y.holds (rank_of_by stay xs) (omega arith) }
            by rest (inr h) = let y = rest h.1 in record { rank = m + y.rank; less = let z = y.less in omega (arith, l, z); holds = E.one (stay q.shapes m x) y.holds (omega arith) }

        at_node : (n : ℕ) {o : Option (List Look)} {r : ℕ} → Judges g no_solutions fuel U f qs qs ls o → K (asked n qs o) → RankOf g qs ls r → Lower (RankOf g qs ls') r
        at_node n {o = None} j k r = absurd (no_fuel k)
        at_node n {o = Some ws} j k r = due_falls 0 n j k r

      -- an argument or a projection is asked for
      abbrev AsksMore : Asked → Type 0
      AsksMore (V.ARight i q σ) = ⊥
      AsksMore AnArgument = Unit {0}
      AsksMore AProjection = Unit {0}
      AsksMore (ASplit k) = ⊥
      AsksMore (ARecordSplit k) = ⊥
      AsksMore (AnAbsurd k) = ⊥
      AsksMore NoClause = ⊥
      AsksMore NotOneKind = ⊥
      AsksMore V.NoVariable = ⊥
      AsksMore NoFuelLeft = ⊥

      asks_more : (i n : ℕ) (q : Clause) (ps : List Clause) (w : Look) (ws : List Look) → AsksMore (asked_of i n (q ∷ ps) (w ∷ ws)) → GoesOn w ⊎ ((w ≡ Halts Clash) × AsksMore (asked_of (suc i) n ps ws))
      asks_more i n q ps (Yes σ NoShape) ws k = absurd k
      asks_more i n q ps (Yes σ (AndShape p rs)) ws k = inl tt
      asks_more i n q ps (Halts Clash) ws k = inr (refl, k)
      asks_more i n q ps (Halts (At j)) ws k = absurd k
      asks_more i n q ps (Halts (RecordAt j)) ws k = absurd k
      asks_more i n q ps (Halts (L.NothingAt j)) ws k = absurd k
      asks_more i n q ps (Halts L.Unable) ws k = absurd k
      asks_more i n q ps (Halts L.Odd) ws k = absurd k
      asks_more i n q ps (Halts L.Spent) ws k = absurd k

      -- a further elimination after a change
      more_falls : (h : ℕ → ℕ → Term) → IsLifted h → (e : Elim) (m : ℕ) {ls : List Elim} {o : Option (List Look)} {r : ℕ} → Judges g no_solutions fuel U f qs qs ls o → AsksMore (asked m qs o) → RankOf g qs ls r → Lower (RankOf g qs (elims_over h 0 ls ++ e ∷ [])) r
      more_falls h l e m {ls} j k r =
          at_node AsksMore GoesOn (λ k. k) (λ k. k) asks_more ls (elims_over h 0 ls ++ e ∷ []) (λ ps n x. ranks_next e (ranks-over g h l 0 x)) (λ ps n w a s x. past_falls e (past_over h (is_past a s)) (ranks-over g h l 0 x)) m j k r

      next_falls : (e : Elim) (m : ℕ) {ls : List Elim} {o : Option (List Look)} {r : ℕ} → Judges g no_solutions fuel U f qs qs ls o → AsksMore (asked m qs o) → RankOf g qs ls r → Lower (RankOf g qs (ls ++ e ∷ [])) r
      next_falls e m {ls} j k r = at_node AsksMore GoesOn (λ k. k) (λ k. k) asks_more ls (ls ++ e ∷ []) (λ ps n x. ranks_next e x) (λ ps n w a s x. past_falls e (is_past a s) x) m j k r

      -- a split is asked for, at a variable for which the change has a constructor
      module _ (h : ℕ → ℕ → Term) (l : IsLifted h) where
        abbrev Showing : Asked → Type 0
        Showing (V.ARight i q σ) = ⊥
        Showing AnArgument = ⊥
        Showing AProjection = ⊥
        Showing (ASplit k) = Shown g fuel h l (Halts (At k))
        Showing (ARecordSplit k) = Shown g fuel h l (Halts (RecordAt k))
        Showing (AnAbsurd k) = ⊥
        Showing NoClause = ⊥
        Showing NotOneKind = ⊥
        Showing V.NoVariable = ⊥
        Showing NoFuelLeft = ⊥

        no_kind : {X : Type 0} (k : Kind) → Showing (by_kind k) → X
        no_kind V.Argument s = absurd s
        no_kind V.Projection s = absurd s
        no_kind V.End s = absurd s

        no_next : {X : Type 0} (b : Bool) (k : Kind) → Showing (cond b (by_kind k) NotOneKind) → X
        no_next true k s = no_kind k s
        no_next false k s = absurd s

        showing : (i n : ℕ) (q : Clause) (ps : List Clause) (w : Look) (ws : List Look) → Showing (asked_of i n (q ∷ ps) (w ∷ ws)) → Shown g fuel h l w ⊎ ((w ≡ Halts Clash) × Showing (asked_of (suc i) n ps ws))
        showing i n q ps (Yes σ NoShape) ws k = absurd k
        showing i n q ps (Yes σ (AndShape p rs)) ws k = no_next (all_next (kind_of p) n ps ws) (kind_of p) k
        showing i n q ps (Halts Clash) ws k = inr (refl, k)
        showing i n q ps (Halts (At j)) ws k = inl k
        showing i n q ps (Halts (RecordAt j)) ws k = inl k
        showing i n q ps (Halts (L.NothingAt j)) ws k = absurd k
        showing i n q ps (Halts L.Unable) ws k = absurd k
        showing i n q ps (Halts L.Odd) ws k = absurd k
        showing i n q ps (Halts L.Spent) ws k = absurd k

        split_falls : (m : ℕ) {ls : List Elim} {o : Option (List Look)} {r : ℕ} → Judges g no_solutions fuel U f qs qs ls o → Showing (asked m qs o) → RankOf g qs ls r → Lower (RankOf g qs (elims_over h 0 ls)) r
        split_falls m {ls} j k r = at_node Showing (Shown g fuel h l) (λ k. k) (λ k. k) showing ls (elims_over h 0 ls) (λ ps n x. ranks-over g h l 0 x) (λ ps n w a s x. all_falls g fuel h l a s x) m j k r

      opened_falls : (n : Node) (s : Splitting) (c : ℕ) (es : Telescope Term) {o : Option (List Look)} {r : ℕ} → Judges g no_solutions fuel U f qs qs n.spine o → (asked (length n.spine) qs o ≡ ASplit s.var) ⊎ (asked (length n.spine) qs o ≡ ARecordSplit s.var) → RankOf g qs n.spine r → Lower (RankOf g qs (opened n s c es).spine) r
      opened_falls n s c es {o} {r} j e x =
          let v = into s.var (length n.context) (length es) (new_con c s.params es) in
          let here : env_var v 0 s.var ≡ shift (new_con c s.params es) 0 s.var = into_at s.var (length n.context) (length es) (new_con c s.params es) in
          let a = made_head c s.var s.params es in
          let b = made_face c s.var s.params es in
          let q : Shown g fuel (env_var v) (env_lifted v) (Halts (At s.var)) = (c, a.0, transport (λ t. HasHead g t c a.0) (sym here) a.1) in
          let y : Shown g fuel (env_var v) (env_lifted v) (Halts (RecordAt s.var)) = (c, b.0, transport (λ t. Faces no_solutions t [] (Constructor c b.0)) (sym here) b.1) in
          transport (λ ls. Lower (RankOf g qs ls) r) (sym (map_over (env_var v) n.spine)) (split_falls (env_var v) (env_lifted v) (length n.spine) j (by (env_var v) (env_lifted v) q y e) x)
        where
          by : (h : ℕ → ℕ → Term) (l : IsLifted h) → Shown g fuel h l (Halts (At s.var)) → Shown g fuel h l (Halts (RecordAt s.var)) → (asked (length n.spine) qs o ≡ ASplit s.var) ⊎ (asked (length n.spine) qs o ≡ ARecordSplit s.var) → Showing h l (asked (length n.spine) qs o)
          by h l q y (inl e) = transport (Showing h l) (sym e) q
          by h l q y (inr e) = transport (Showing h l) (sym e) y

      below_falls : {n n' : Node} {p : Plan} {o : Option (List Look)} {r : ℕ} → Judges g no_solutions fuel U f qs qs n.spine o → For g n (asked (length n.spine) qs o) p → Below g no_solutions fuel U f qs n p n' → RankOf g qs n.spine r → Lower (RankOf g qs n'.spine) r
      below_falls {n} {r = r} j a (E.takes {b = b}) x =
          transport (λ ls. Lower (RankOf g qs (ls ++ Arg b (Var 0) ∷ [])) r) (sym (map_over (shift_var 0 1) n.spine)) (more_falls (shift_var 0 1) (shift_lifted 0 1) (Arg b (Var 0)) (length n.spine) j (transport AsksMore (sym a) tt) x)
      below_falls {n} j a (E.shows h t) x = next_falls (Field h) (length n.spine) j (transport AsksMore (sym a.0) tt) x
      below_falls {n} j a (E.splits {k = k} {d = d} {ps = ps} {is = is} c con ss b e u) x =
          let s = splitting_at g no_solutions fuel U f qs n k ps is in
          let y = opened_falls n s c con.args j (inl a) x in
          record { rank = y.rank; less = y.less; holds = rank_of_by (λ rs m z. transport (λ ls. Ranks g rs ls m) (sym (map_over (env_var b.values) (opened n s c con.args).spine)) (ranks-over g (env_var b.values) (env_lifted b.values) 0 z)) y.holds }
      below_falls {n} j a (E.opens {k = k} {c = c} {ps = ps} con e) x = opened_falls n (splitting_at g no_solutions fuel U f qs n k ps []) c con.args j (inr a.0) x

      pub rank_falls : (n n' : Node) (r : ℕ) → Child g no_solutions fuel U f qs n n' → RankOf g qs n.spine r → (k : ℕ) × (k < r) × RankOf g qs n'.spine k
      rank_falls n n' r (E.child j p b) x = let y = below_falls j (plan_for g no_solutions fuel U f qs p) b x in (y.rank, y.less, y.holds)

      terminates_below : (k : ℕ) (n : Node) (r : ℕ) → r < k → RankOf g qs n.spine r → Terminates g no_solutions fuel U f qs n
      terminates_below zero n r h x = absurd (omega (arith, h))
      terminates_below (suc k) n r h x = terminates (λ n' c. let y = rank_falls n n' r c x in terminates_below k n' y.0 (let z = y.1 in omega (arith, h, z)) y.2)

      pub all_terminate : (n : Node) → Terminates g no_solutions fuel U f qs n
      all_terminate n = let x = rank_of_full qs n.spine in terminates_below (suc x.0) n x.0 (omega arith) x.1
