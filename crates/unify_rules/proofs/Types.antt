-- The types of the branch's entries: each is in scope, and is the type of its variable under the branch's values.
use Rattle.std.specs.Prelude.{◌≡◌, ℕ, ◌+◌, ◌-◌, ◌<◌, ◌≤◌, ◌⊎◌, Bool, true, false, eqb, ltb, cond, List, [], ◌∷◌, ◌++◌, length, map, reverse, drop, slice_get, Option, Some, None, refl, zero, suc}
use Rattle.std.specs.List.{AllByRecursion}
use mathlib.Core.List.{reverse_aux}
use Rattle.std.proofs.Common.{ap, sym, ◌∙◌, subst as transport, arith, inl, inr, eqb-true, append-nil, zero-add}
use Rattle.std.proofs.Math.ListN.{get_or-map}
use Rattle.std.proofs.lemmas.Grind.{common_steps}
use Rattle.std.proofs.lemmas.List.{length-drop}
use Rattle.core_rules.specs.Term.{Term, Var, Sort}
use Rattle.core_rules.specs.Substitution.{over, shift, shift_var, value_at, env_var, under}
use Rattle.core_rules.specs.Signature.{Context, Entry, onto, Signature}
use Rattle.core_rules.specs.InScope.{VarsBelow}
use Rattle.core_rules.specs.Bounded as B
use Rattle.core_rules.specs.Bounded.{Verdict, Yes, No, WaitsFor}
use Rattle.core_rules.specs.BoundedLaws.{shown}
use Rattle.core_rules.specs.Unification.{Equation, eq, Solution, State, St, put, put_var, put_in_solution, whole_types, begin}
use Rattle.core_rules.proofs.Substitution.Traversal.{over-over}
use Rattle.core_rules.proofs.Substitution.Lifted.{over-shift}
use Rattle.core_rules.proofs.Substitution.Changes.{env_lifted}
use Rattle.core_rules.proofs.Heads.OneAnswer.{one_some}
use Rattle.unify_rules.specs.Unifier.{Outcome, Solved, Conflict, Cycle, Stuck, OutOfFuel, OutOfDepth, Rule, Applies, solves, injects, conflicts, cycles, sticks, Ruled, Next, Answers, Goes, after, Turn, done, out_left, out_right, turn, Unify, answers, goes}
use Rattle.unify_rules.specs.UnifierLaws.{EquationBelow, ContextBelow}
use Rattle.unify_rules.specs.Joined.{place_in, rename_var, rename, with_type, entries_of, keep_of, branch_of}
use Rattle.unify_rules.proofs.Only.{only, over-only, only-over, only-weaker}
use Rattle.unify_rules.proofs.HeadsOnly.{heads_only, only_shown}
use Rattle.unify_rules.proofs.Members.{Member, eqb_false}
use Rattle.unify_rules.proofs.Fewer.{can_be, put-only}
use Rattle.unify_rules.proofs.Order.{Unsolved, keep_has, place_below}
use Rattle.unify_rules.proofs.Acyclic.{occurs_has, has_only, branch_in_order}
use Rattle.unify_rules.proofs.Sound.{StateKept, others_unsolved, more, turn_kept, unify_kept}
use Rattle.unify_rules.proofs.Joining.{below, only_below, at_first, equations_only, entries_length, under_renamed, all_solved}

-- r has for the variable of the solution its value under r
abbrev Realised : List Term → Solution → Type 0
Realised r s = value_at r s.var ≡ under r s.value

module _ (r : List Term) (x : ℕ) (v : Term) (h : value_at r x ≡ under r v) where
  put_each : (d i : ℕ) → over (env_var r) d (put_var x v d i) ≡ env_var r d i
  put_each d i = by (eqb i (x + d)) refl
    where
      by : (b : Bool) → eqb i (x + d) ≡ b → over (env_var r) d (cond b (shift v 0 d) (Var i)) ≡ env_var r d i
      by false e = refl
      by true e =
          let q : i ≡ x + d = eqb-true i (x + d) e in
          let l : ltb i d ≡ false = grind (arith, common_steps) in
          let m : i - d ≡ x = omega arith in
          let s : over (env_var r) d (shift v 0 d) ≡ shift (under r v) 0 d = rw zero-add at (over-shift (env_var r) (env_lifted r) d 0 v) in
          s ∙ sym (rw (l, m) (ap (λ t. shift t 0 d) h))

  -- to put v for x changes nothing under r
  pub under-put : (t : Term) → under r (put x v t) ≡ under r t
  under-put t = over-over (env_var r) (put_var x v) (env_var r) put_each 0 t

-- under the values at the end the types are those at the start
module _ (r : List Term) where
  abbrev AllRealised : List Solution → Type 0
  AllRealised ss = AllByRecursion (Realised r) ss

  abbrev SameTypes : List Term → List Term → Type 0
  SameTypes ts us = (k : ℕ) → under r (value_at ts k) ≡ under r (value_at us k)

  -- what r, which has the values at the end, says of a state
  abbrev Ending : Outcome → List Term → List Solution → Type 0
  Ending (Solved us qs) ts ss = AllRealised qs → AllRealised ss × SameTypes us ts
  Ending o ts ss = Unit {0}

  values_before : (x : ℕ) (v : Term) → value_at r x ≡ under r v → (ss : List Solution) → AllRealised (map (put_in_solution x v) ss) → AllRealised ss
  values_before x v h [] a = tt
  values_before x v h (s ∷ ss) a = (a.0 ∙ under-put r x v h s.value, values_before x v h ss a.1)

  types_before : (x : ℕ) (v : Term) → value_at r x ≡ under r v → (us ts : List Term) → SameTypes us (map (put x v) ts) → SameTypes us ts
  types_before x v h us ts e k = e k ∙ (ap (under r) (get_or-map (put x v) ts k (Sort 0)) ∙ under-put r x v h (value_at ts k))

  solved_before : (x : ℕ) (v : Term) (o : Outcome) (ts : List Term) (ss : List Solution) → Ending o (map (put x v) ts) (record { var = x; value = v } ∷ map (put_in_solution x v) ss) → Ending o ts ss
  solved_before x v (Solved us qs) ts ss h = λ a. let y = h a in (values_before x v y.0.0 ss y.0.1, types_before x v y.0.0 us ts y.1)
  solved_before x v (Conflict j k) ts ss h = tt
  solved_before x v (Cycle y) ts ss h = tt
  solved_before x v (Stuck t u) ts ss h = tt
  solved_before x v OutOfFuel ts ss h = tt
  solved_before x v OutOfDepth ts ss h = tt

  abbrev StateEnding : Outcome → State → Type 0
  StateEnding o (St ts es ss) = Ending o ts ss

  abbrev NextEnding : Next → State → Type 0
  NextEnding (Answers o) s = StateEnding o s
  NextEnding (Goes s') s = (o : Outcome) → StateEnding o s' → StateEnding o s

  applied : (ts : List Term) (t u : Term) (q : Equation) (es : List Equation) (ss : List Solution) {l : Rule} → Applies ts t u l → NextEnding (after l ts es ss) (St ts (q ∷ es) ss)
  applied ts t u q es ss (solves {x = x} {v = v} c) = λ o h. solved_before x v o ts ss h
  applied ts t u q es ss (injects c) = λ o h. h
  applied ts t u q es ss (conflicts c) = tt
  applied ts t u q es ss (cycles c) = tt
  applied ts t u q es ss (sticks c) = tt

  ruled : (ts : List Term) (t u : Term) (p : Equation) (es : List Equation) (ss : List Solution) (q : Verdict) (l : Rule) → Ruled ts t u q l → NextEnding (after l ts es ss) (St ts (p ∷ es) ss)
  ruled ts t u p es ss Yes l d = transport (λ l. NextEnding (after l ts es ss) (St ts (p ∷ es) ss)) (sym d) (λ o h. h)
  ruled ts t u p es ss B.OutOfFuel l d = transport (λ l. NextEnding (after l ts es ss) (St ts (p ∷ es) ss)) (sym d) tt
  ruled ts t u p es ss B.OutOfDepth l d = transport (λ l. NextEnding (after l ts es ss) (St ts (p ∷ es) ss)) (sym d) tt
  ruled ts t u p es ss (No x y xs) l d = applied ts t u p es ss d
  ruled ts t u p es ss (WaitsFor m) l d = applied ts t u p es ss d

  module _ (g : Signature Term) (fuel depth : ℕ) where
    turn_ending : {s : State} {x : Next} → Turn g fuel depth s x → NextEnding x s
    turn_ending done = λ a. (a, λ k. refl)
    turn_ending (out_left h) = tt
    turn_ending (out_right h i) = tt
    turn_ending (turn {ts = ts} {t = t} {u = u} {es = es} {ss = ss} {v = v} {w = w} q l h i c d e) =
        transport (λ x. NextEnding x (St ts (eq t u ∷ es) ss)) (sym e) (ruled ts (shown v) (shown w) (eq t u) es ss q l d)

    pub unify_ending : {s : State} {o : Outcome} {m : ℕ} → Unify g fuel depth s o m → StateEnding o s
    unify_ending (answers x) = turn_ending x
    unify_ending {o = o} (goes x y) = turn_ending x o (unify_ending y)

each_at : (Q : Term → Type 0) → Q (Sort 0) → (ts : List Term) → AllByRecursion Q ts → (k : ℕ) → Q (value_at ts k)
each_at Q h [] a k = h
each_at Q h (t ∷ ts) a zero = a.0
each_at Q h (t ∷ ts) a (suc k) = each_at Q h ts a.1 k

-- the types have unsolved variables alone
module _ (n : ℕ) where
  abbrev AreOpen : List Term → List Solution → Type 0
  AreOpen ts ss = AllByRecursion (only (Unsolved ss n) 0) ts

  abbrev OutcomeOpen : Outcome → Type 0
  OutcomeOpen (Solved ts ss) = AreOpen ts ss
  OutcomeOpen o = Unit {0}

  abbrev StateOpen : State → Type 0
  StateOpen (St ts es ss) = AreOpen ts ss

  abbrev NextOpen : Next → Type 0
  NextOpen (Answers o) = OutcomeOpen o
  NextOpen (Goes s) = StateOpen s

  open_put : (x : ℕ) (v : Term) (ss : List Solution) → only (Unsolved (more n x v ss) n) 0 v → (ts : List Term) → AreOpen ts ss → AllByRecursion (only (Unsolved (more n x v ss) n) 0) (map (put x v) ts)
  open_put x v ss h [] a = tt
  open_put x v ss h (t ∷ ts) a = (put-only (Unsolved ss n) (Unsolved (more n x v ss) n) x v (λ z. h) (λ i u d. others_unsolved n x v ss i u d) t a.0, open_put x v ss h ts a.1)

  open_by : (ts : List Term) (t u : Term) (es : List Equation) (ss : List Solution) → only (Unsolved ss n) 0 t → only (Unsolved ss n) 0 u → AreOpen ts ss → {r : Rule} → Applies ts t u r → NextOpen (after r ts es ss)
  open_by ts t u es ss a b k (solves {x = x} {v = v} c) =
      let s = can_be (Unsolved ss n) t u x v c a b in
      let h = only-weaker (λ i. Unsolved ss n i × (i ≡ x → ⊥)) (Unsolved (more n x v ss) n) (λ i p. others_unsolved n x v ss i p.0 p.1) 0 v s.value in
      open_put x v ss h ts k
  open_by ts t u es ss a b k (injects c) = k
  open_by ts t u es ss a b k (conflicts c) = tt
  open_by ts t u es ss a b k (cycles c) = tt
  open_by ts t u es ss a b k (sticks c) = tt

  open_ruled : (ts : List Term) (t u : Term) (es : List Equation) (ss : List Solution) (q : Verdict) (r : Rule) → only (Unsolved ss n) 0 t → only (Unsolved ss n) 0 u → AreOpen ts ss → Ruled ts t u q r → NextOpen (after r ts es ss)
  open_ruled ts t u es ss Yes r a b k d = transport (λ r. NextOpen (after r ts es ss)) (sym d) k
  open_ruled ts t u es ss B.OutOfFuel r a b k d = transport (λ r. NextOpen (after r ts es ss)) (sym d) tt
  open_ruled ts t u es ss B.OutOfDepth r a b k d = transport (λ r. NextOpen (after r ts es ss)) (sym d) tt
  open_ruled ts t u es ss (No x y xs) r a b k d = open_by ts t u es ss a b k d
  open_ruled ts t u es ss (WaitsFor m) r a b k d = open_by ts t u es ss a b k d

  module _ (g : Signature Term) (fuel depth : ℕ) where
    turn_open : {s : State} {x : Next} → Turn g fuel depth s x → StateKept n s → StateOpen s → NextOpen x
    turn_open done k o = o
    turn_open (out_left h) k o = tt
    turn_open (out_right h i) k o = tt
    turn_open (turn {ts = ts} {es = es} {ss = ss} {v = v} {w = w} q r h i c d e) k o =
        let a = only_shown (Unsolved ss n) v (heads_only (Unsolved ss n) g h.0 k.equations.0.0 tt) in
        let b = only_shown (Unsolved ss n) w (heads_only (Unsolved ss n) g i.0 k.equations.0.1 tt) in
        transport NextOpen (sym e) (open_ruled ts (shown v) (shown w) es ss q r a b o d)

    unify_open : {s : State} {o : Outcome} {m : ℕ} → Unify g fuel depth s o m → StateKept n s → StateOpen s → OutcomeOpen o
    unify_open (answers a) k o = turn_open a k o
    unify_open (goes a b) k o = unify_open b (turn_kept n g fuel depth a k) (turn_open a k o)

-- the types at the start have variables of the context alone
module _ (n l m : ℕ) (h : l + m ≤ n) where
  raised_var : (d i : ℕ) → (i < d + 0) ⊎ Unsolved [] l (i - (d + 0)) → only (Unsolved [] n) (d + 0) (shift_var 0 m d i)
  raised_var d i k = by (ltb i (0 + d)) refl k
    where
      by : (b : Bool) → ltb i (0 + d) ≡ b → (i < d + 0) ⊎ Unsolved [] l (i - (d + 0)) → only (Unsolved [] n) (d + 0) (Var (cond b i (i + m)))
      by true e k = inl (let q : i < 0 + d = grind (arith, common_steps) in omega arith)
      by false e (inl q) = absurd (let z : 0 + d ≤ i = grind (arith, common_steps) in omega arith)
      by false e (inr u) = inr (record { below = (let q = u.below in let z : 0 + d ≤ i = grind (arith, common_steps) in omega (arith, h, q, z)); none = refl })

  raised_open : (t : Term) → only (Unsolved [] l) 0 t → only (Unsolved [] n) 0 (shift t 0 m)
  raised_open t k = only-over (Unsolved [] l) (Unsolved [] n) (shift_var 0 m) 0 0 raised_var 0 t k

begin_open : (n m : ℕ) (c : Context Term) → length c + m ≤ n → ContextBelow c → AllByRecursion (only (Unsolved [] n) 0) (whole_types m c)
begin_open n m [] l h = tt
begin_open n m (e ∷ c) l h = (raised_open n (length c) (m + 1) (omega arith) e.ty (at_first (length c) e.ty h.0), begin_open n (m + 1) c (omega arith) h.1)

-- what the entries of the branch are
with_type-ty : (o : Option (Entry Term)) (a : Term) → (with_type o a).ty ≡ a
with_type-ty None a = refl
with_type-ty (Some e) a = refl

record EntryAt (ts : List Term) (ks : List ℕ) (j : ℕ) (e : Entry Term) : Type 0 where
  var : ℕ
  is_var : slice_get ks j ≡ Some var
  ty : e.ty ≡ rename (drop (suc j) ks) (value_at ts var)

entry_at : (c : Context Term) (ts : List Term) (ks : List ℕ) (j : ℕ) (e : Entry Term) → slice_get (entries_of c ts ks) j ≡ Some e → EntryAt ts ks j e
entry_at c ts [] j e h = absurd cc
entry_at c ts (k ∷ ks) zero e h =
    record { var = k; is_var = refl; ty = sym (ap (λ e. e.ty) (one_some h)) ∙ with_type-ty (slice_get c k) (rename ks (value_at ts k)) }
entry_at c ts (k ∷ ks) (suc j) e h = let x = entry_at c ts ks j e h in record { var = x.var; is_var = x.is_var; ty = x.ty }

onto_reversed : {A : Type 0} (es ds : List (Entry A)) (c : Context A) → onto (reverse_aux es ds) c ≡ onto ds (es ++ c)
onto_reversed [] ds c = refl
onto_reversed (e ∷ es) ds c = onto_reversed es (e ∷ ds) c

onto_reverse : {A : Type 0} (es : Context A) → onto (reverse es) [] ≡ es
onto_reverse es = onto_reversed es [] [] ∙ append-nil es

-- the place of a variable among those outside place j
place_outside : (ks : List ℕ) (j i : ℕ) → j < place_in ks i → place_in ks i ≡ place_in (drop (suc j) ks) i + (j + 1)
place_outside [] j i l = absurd (omega arith)
place_outside (k ∷ ks) zero i l = by (eqb k i) l
  where
    by : (b : Bool) → 0 < cond b 0 (suc (place_in ks i)) → cond b 0 (suc (place_in ks i)) ≡ place_in ks i + 1
    by true l = absurd (omega arith)
    by false l = omega arith
place_outside (k ∷ ks) (suc j) i l = by (eqb k i) l (place_outside ks j i)
  where
    by : (b : Bool) → suc j < cond b 0 (suc (place_in ks i)) → (j < place_in ks i → place_in ks i ≡ place_in (drop (suc j) ks) i + (j + 1)) → cond b 0 (suc (place_in ks i)) ≡ place_in (drop (suc j) ks) i + (suc j + 1)
    by true l r = absurd (omega arith)
    by false l r = let e : place_in ks i ≡ place_in (drop (suc j) ks) i + (j + 1) = r (omega arith) in omega arith

member_outside : (ks : List ℕ) (j i : ℕ) → Member i ks → j < place_in ks i → Member i (drop (suc j) ks)
member_outside [] j i m l = absurd m
member_outside (k ∷ ks) zero i m l = by (eqb k i) refl m l
  where
    by : (b : Bool) → eqb k i ≡ b → (i ≡ k) ⊎ Member i ks → 0 < cond b 0 (suc (place_in ks i)) → Member i ks
    by true e m l = absurd (omega arith)
    by false e (inl q) l = absurd (eqb_false k i e (sym q))
    by false e (inr q) l = q
member_outside (k ∷ ks) (suc j) i m l = by (eqb k i) refl m l (member_outside ks j i)
  where
    by : (b : Bool) → eqb k i ≡ b → (i ≡ k) ⊎ Member i ks → suc j < cond b 0 (suc (place_in ks i)) → (Member i ks → j < place_in ks i → Member i (drop (suc j) ks)) → Member i (drop (suc j) ks)
    by true e m l r = absurd (omega arith)
    by false e (inl q) l r = absurd (eqb_false k i e (sym q))
    by false e (inr q) l r = r q (omega arith)

-- a term whose variables stand outside place j, renamed among these and raised, or renamed among all
module _ (ks : List ℕ) (j : ℕ) where
  abbrev Outside : ℕ → Type 0
  Outside i = Member i ks × (j < place_in ks i)

  abbrev raised : ℕ → ℕ → Term
  raised d i = over (shift_var 0 (j + 1)) d (rename_var (drop (suc j) ks) d i)

  raised_renamed : (d i : ℕ) → (i < d) ⊎ Outside (i - d) → raised d i ≡ rename_var ks d i
  raised_renamed d i h = by (ltb i d) refl h
    where
      by : (b : Bool) → ltb i d ≡ b → (i < d) ⊎ Outside (i - d) → over (shift_var 0 (j + 1)) d (cond b (Var i) (Var (place_in (drop (suc j) ks) (i - d) + d))) ≡ cond b (Var i) (Var (place_in ks (i - d) + d))
      by true e h = let q : ltb i (0 + d) ≡ true = grind (arith, common_steps) in rw q refl
      by false e (inl l) = absurd (let q : d ≤ i = grind (arith, common_steps) in omega arith)
      by false e (inr u) =
          let p : place_in ks (i - d) ≡ place_in (drop (suc j) ks) (i - d) + (j + 1) = place_outside ks j (i - d) u.1 in
          let q : ltb (place_in (drop (suc j) ks) (i - d) + d) (0 + d) ≡ false = grind (arith, common_steps) in
          rw q (ap Var (let z : place_in (drop (suc j) ks) (i - d) + d + (j + 1) ≡ place_in ks (i - d) + d = omega arith in z))

  shift-rename : (t : Term) → only Outside 0 t → shift (rename (drop (suc j) ks) t) 0 (j + 1) ≡ rename ks t
  shift-rename t h = over-over (shift_var 0 (j + 1)) (rename_var (drop (suc j) ks)) raised (λ d i. refl) 0 t ∙ over-only Outside raised (rename_var ks) raised_renamed 0 t h

  outside_below : (d i : ℕ) → (i < d + 0) ⊎ Outside (i - (d + 0)) → only (below (length (drop (suc j) ks))) (d + 0) (rename_var (drop (suc j) ks) d i)
  outside_below d i h = by (ltb i d) refl h
    where
      by : (b : Bool) → ltb i d ≡ b → (i < d + 0) ⊎ Outside (i - (d + 0)) → only (below (length (drop (suc j) ks))) (d + 0) (cond b (Var i) (Var (place_in (drop (suc j) ks) (i - d) + d)))
      by true e h = inl (let l : i < d = grind (arith, common_steps) in omega arith)
      by false e (inl l) = absurd (let k : d ≤ i = grind (arith, common_steps) in omega arith)
      by false e (inr u) =
          let q : i - (d + 0) ≡ i - d = omega arith in
          let o : Outside (i - d) = transport Outside q u in
          let l : place_in (drop (suc j) ks) (i - d) < length (drop (suc j) ks) = place_below (drop (suc j) ks) (i - d) (member_outside ks j (i - d) o.0 o.1) in
          inr (omega arith)

  renamed_below : (t : Term) → only Outside 0 t → VarsBelow (length (drop (suc j) ks)) (rename (drop (suc j) ks) t)
  renamed_below t h =
      let m = length (drop (suc j) ks) in
      let q : m + 0 ≡ m = omega arith in
      transport (λ n. VarsBelow n (rename (drop (suc j) ks) t)) q (only_below m 0 (rename (drop (suc j) ks) t) (only-over Outside (below m) (rename_var (drop (suc j) ks)) 0 0 outside_below 0 t h))

each_below : (c : Context Term) → ((j : ℕ) (e : Entry Term) → slice_get c j ≡ Some e → VarsBelow (length c - (j + 1)) e.ty) → ContextBelow c
each_below [] h = tt
each_below (e ∷ c) h =
    let q : suc (length c) - (0 + 1) ≡ length c = omega arith in
    (transport (λ n. VarsBelow n e.ty) q (h 0 e refl), each_below c (λ j d s. let r : suc (length c) - (suc j + 1) ≡ length c - (j + 1) = omega arith in transport (λ n. VarsBelow n d.ty) r (h (suc j) d s)))

module _ (g : Signature Term) (fuel depth n : ℕ) (c : Context Term) (es : List Equation) (ts : List Term) (ss : List Solution) (formed : ContextBelow c) (scoped : AllByRecursion (EquationBelow (length c)) es) (d : Unify g fuel depth (begin c es) (Solved ts ss) n) where
  start : StateKept (length c) (begin c es)
  start = record { equations = equations_only (length c) es scoped; values = tt; below = tt; fresh = tt }

  types_open : AllByRecursion (only (Unsolved ss (length c)) 0) ts
  types_open = unify_open (length c) g fuel depth d start (begin_open (length c) 0 c (omega arith) formed)

  type_open : (k : ℕ) → only (Unsolved ss (length c)) 0 (value_at ts k)
  type_open k = each_at (only (Unsolved ss (length c)) 0) tt ts types_open k

  -- the variables of the type of the variable at place j stand outside it
  type_outside : (j k : ℕ) → slice_get (keep_of (length c) ts ss) j ≡ Some k → only (Outside (keep_of (length c) ts ss) j) 0 (value_at ts k)
  type_outside j k e = has_only (Outside (keep_of (length c) ts ss) j) (value_at ts k) (λ i o.
      let u = occurs_has (Unsolved ss (length c)) i (value_at ts k) (type_open k) o in
      (keep_has (length c) ts ss i u, branch_in_order g fuel depth n c es ts ss d j k i e u.below u.none o))

  abbrev entries : Context Term
  entries = entries_of c ts (keep_of (length c) ts ss)

  entry_below : (j : ℕ) (e : Entry Term) → slice_get entries j ≡ Some e → VarsBelow (length entries - (j + 1)) e.ty
  entry_below j e h =
      let x = entry_at c ts (keep_of (length c) ts ss) j e h in
      let l : length (drop (suc j) (keep_of (length c) ts ss)) ≡ length entries - (j + 1) = length-drop (suc j) (keep_of (length c) ts ss) ∙ (let z = entries_length c ts (keep_of (length c) ts ss) in let y : suc j ≡ j + 1 = omega arith in cc) in
      transport (λ m. VarsBelow m e.ty) l (transport (VarsBelow (length (drop (suc j) (keep_of (length c) ts ss)))) (sym x.ty) (renamed_below (keep_of (length c) ts ss) j (value_at ts x.var) (type_outside j x.var x.is_var)))

  entry_type : (j k : ℕ) (e : Entry Term) → slice_get (keep_of (length c) ts ss) j ≡ Some k → slice_get entries j ≡ Some e → shift e.ty 0 (j + 1) ≡ under (branch_of c ts ss).values (value_at (whole_types 0 c) k)
  entry_type j k e s h =
      let x = entry_at c ts (keep_of (length c) ts ss) j e h in
      let q : x.var ≡ k = one_some (sym x.is_var ∙ s) in
      let a : shift e.ty 0 (j + 1) ≡ rename (keep_of (length c) ts ss) (value_at ts k) =
      ap (λ t. shift t 0 (j + 1)) (x.ty ∙ ap (λ v. rename (drop (suc j) (keep_of (length c) ts ss)) (value_at ts v)) q) ∙ shift-rename (keep_of (length c) ts ss) j (value_at ts k) (type_outside j k s) in
      let b : under (branch_of c ts ss).values (value_at ts k) ≡ rename (keep_of (length c) ts ss) (value_at ts k) = under_renamed c ts ss (value_at ts k) (type_open k) in
      let f = unify_ending (branch_of c ts ss).values g fuel depth d (all_solved c ts ss (unify_kept (length c) g fuel depth d start)) in
      a ∙ (sym b ∙ f.1 k)

  pub branch_types : ContextBelow (onto (branch_of c ts ss).context [])
      × ((j k : ℕ) (e : Entry Term) → slice_get (branch_of c ts ss).keep j ≡ Some k → slice_get (onto (branch_of c ts ss).context []) j ≡ Some e → shift e.ty 0 (j + 1) ≡ under (branch_of c ts ss).values (value_at (whole_types 0 c) k))
  branch_types =
      let r : entries ≡ onto (branch_of c ts ss).context [] = sym (onto_reverse entries) in
      (transport ContextBelow r (each_below entries entry_below), λ j k e s h. entry_type j k e s (transport (λ l. slice_get l j ≡ Some e) (sym r) h))
