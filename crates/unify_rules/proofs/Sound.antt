-- What each turn keeps: equations and values have unsolved variables alone, and each variable is solved once.
use Rattle.std.specs.Prelude.{◌≡◌, ◌≢◌, ℕ, ◌<◌, Bool, true, false, eqb, cond, List, [], ◌∷◌, map, Some, None, option_map, refl}
use Rattle.std.specs.List.{AllByRecursion}
use Rattle.std.proofs.Common.{ap, sym, ◌∙◌, subst as transport, eqb-true}
use Rattle.core_rules.specs.Term.{Term}
use Rattle.core_rules.specs.Signature.{Signature}
use Rattle.core_rules.specs.Bounded as B
use Rattle.core_rules.specs.Bounded.{Verdict, Yes, No, WaitsFor}
use Rattle.core_rules.specs.BoundedLaws.{shown}
use Rattle.core_rules.specs.Unification.{Equation, eq, Solution, State, St, put, put_in_solution}
use Rattle.unify_rules.specs.Unifier.{Outcome, Solved, Conflict, Cycle, Stuck, OutOfFuel, OutOfDepth, Rule, Applies, solves, injects, conflicts, cycles, sticks, Ruled, Next, Answers, Goes, after, Turn, done, out_left, out_right, turn, Unify, answers, goes}
use Rattle.unify_rules.specs.Joined.{value_of}
use Rattle.unify_rules.proofs.Only.{only, only-weaker}
use Rattle.unify_rules.proofs.HeadsOnly.{heads_only, only_shown}
use Rattle.unify_rules.proofs.Fewer.{EachOnly, only-append, inject_only, can_be, put-only, puts-only}
use Rattle.unify_rules.proofs.Order.{Unsolved}

-- each variable is solved once
abbrev pub Fresh : List Solution → Type 0
Fresh [] = Unit {0}
Fresh (s ∷ ss) = (value_of ss s.var ≡ None) × Fresh ss

module _ (n : ℕ) where
  pub record Kept (es : List Equation) (ss : List Solution) : Type 0 where
    pub equations : EachOnly (Unsolved ss n) es
    pub values : AllByRecursion (λ s. only (Unsolved ss n) 0 s.value) ss
    pub below : AllByRecursion (λ s. s.var < n) ss
    pub fresh : Fresh ss

  abbrev pub OutcomeKept : Outcome → Type 0
  OutcomeKept (Solved ts ss) = Kept [] ss
  OutcomeKept (Conflict j k) = Unit {0}
  OutcomeKept (Cycle x) = Unit {0}
  OutcomeKept (Stuck t u) = Unit {0}
  OutcomeKept OutOfFuel = Unit {0}
  OutcomeKept OutOfDepth = Unit {0}

  abbrev pub StateKept : State → Type 0
  StateKept (St ts es ss) = Kept es ss

  abbrev pub NextKept : Next → Type 0
  NextKept (Answers o) = OutcomeKept o
  NextKept (Goes s) = StateKept s

  value_of-put : (x : ℕ) (v : Term) (ss : List Solution) (i : ℕ) → value_of (map (put_in_solution x v) ss) i ≡ option_map (put x v) (value_of ss i)
  value_of-put x v [] i = refl
  value_of-put x v (s ∷ ss) i = by (eqb s.var i) (value_of-put x v ss i)
    where
      by : (b : Bool) → value_of (map (put_in_solution x v) ss) i ≡ option_map (put x v) (value_of ss i) → cond b (Some (put x v s.value)) (value_of (map (put_in_solution x v) ss) i) ≡ option_map (put x v) (cond b (Some s.value) (value_of ss i))
      by true e = refl
      by false e = e

  still_none : (x : ℕ) (v : Term) (ss : List Solution) (i : ℕ) → value_of ss i ≡ None → value_of (map (put_in_solution x v) ss) i ≡ None
  still_none x v ss i e = value_of-put x v ss i ∙ ap (option_map (put x v)) e

  -- the solutions when x is solved with v
  abbrev pub more : ℕ → Term → List Solution → List Solution
  more x v ss = record { var = x; value = v } ∷ map (put_in_solution x v) ss

  pub others_unsolved : (x : ℕ) (v : Term) (ss : List Solution) (i : ℕ) → Unsolved ss n i → i ≢ x → Unsolved (more x v ss) n i
  others_unsolved x v ss i u d = record { below = u.below; none = by (eqb x i) refl }
    where
      by : (b : Bool) → eqb x i ≡ b → cond b (Some v) (value_of (map (put_in_solution x v) ss) i) ≡ None
      by true e = absurd (d (sym (eqb-true x i e)))
      by false e = still_none x v ss i u.none

  values_put : (x : ℕ) (v : Term) (ss : List Solution) → only (Unsolved (more x v ss) n) 0 v → (qs : List Solution) → AllByRecursion (λ s. only (Unsolved ss n) 0 s.value) qs
      → AllByRecursion (λ s. only (Unsolved (more x v ss) n) 0 s.value) (map (put_in_solution x v) qs)
  values_put x v ss h [] a = tt
  values_put x v ss h (q ∷ qs) a = (put-only (Unsolved ss n) (Unsolved (more x v ss) n) x v (λ z. h) (λ i u d. others_unsolved x v ss i u d) q.value a.0, values_put x v ss h qs a.1)

  below_put : (x : ℕ) (v : Term) (ss : List Solution) → AllByRecursion (λ s. s.var < n) ss → AllByRecursion (λ s. s.var < n) (map (put_in_solution x v) ss)
  below_put x v [] a = tt
  below_put x v (s ∷ ss) a = (a.0, below_put x v ss a.1)

  fresh_put : (x : ℕ) (v : Term) (ss : List Solution) → Fresh ss → Fresh (map (put_in_solution x v) ss)
  fresh_put x v [] a = tt
  fresh_put x v (s ∷ ss) a = (still_none x v ss s.var a.0, fresh_put x v ss a.1)

  applied : (ts : List Term) (t u : Term) (es : List Equation) (ss : List Solution) → EachOnly (Unsolved ss n) (eq t u ∷ []) → Kept es ss → {r : Rule} → Applies ts t u r → NextKept (after r ts es ss)
  applied ts t u es ss a k (solves {x = x} {v = v} c) =
      let s = can_be (Unsolved ss n) t u x v c a.0.0 a.0.1 in
      let h = only-weaker (λ i. Unsolved ss n i × (i ≡ x → ⊥)) (Unsolved (more x v ss) n) (λ i p. others_unsolved x v ss i p.0 p.1) 0 v s.value in
      record {
        equations = puts-only (Unsolved ss n) (Unsolved (more x v ss) n) x v (λ z. h) (λ i u d. others_unsolved x v ss i u d) es k.equations;
        values = (h, values_put x v ss h ss k.values);
        below = (s.has.below, below_put x v ss k.below);
        fresh = (still_none x v ss x s.has.none, fresh_put x v ss k.fresh);
      }
  applied ts t u es ss a k (injects {qs = qs} c) =
      record { equations = only-append (Unsolved ss n) qs es (inject_only (Unsolved ss n) t u qs c a.0.0 a.0.1) k.equations; values = k.values; below = k.below; fresh = k.fresh }
  applied ts t u es ss a k (conflicts c) = tt
  applied ts t u es ss a k (cycles c) = tt
  applied ts t u es ss a k (sticks c) = tt

  ruled : (ts : List Term) (t u : Term) (es : List Equation) (ss : List Solution) (q : Verdict) (r : Rule) → EachOnly (Unsolved ss n) (eq t u ∷ []) → Kept es ss → Ruled ts t u q r → NextKept (after r ts es ss)
  ruled ts t u es ss Yes r a k d = transport (λ r. NextKept (after r ts es ss)) (sym d) k
  ruled ts t u es ss B.OutOfFuel r a k d = transport (λ r. NextKept (after r ts es ss)) (sym d) tt
  ruled ts t u es ss B.OutOfDepth r a k d = transport (λ r. NextKept (after r ts es ss)) (sym d) tt
  ruled ts t u es ss (No x y xs) r a k d = applied ts t u es ss a k d
  ruled ts t u es ss (WaitsFor m) r a k d = applied ts t u es ss a k d

  module _ (g : Signature Term) (fuel depth : ℕ) where
    pub turn_kept : {s : State} {x : Next} → Turn g fuel depth s x → StateKept s → NextKept x
    turn_kept done k = k
    turn_kept (out_left h) k = tt
    turn_kept (out_right h i) k = tt
    turn_kept (turn {ts = ts} {es = es} {ss = ss} {v = v} {w = w} q r h i c d e) k =
        let a = only_shown (Unsolved ss n) v (heads_only (Unsolved ss n) g h.0 k.equations.0.0 tt) in
        let b = only_shown (Unsolved ss n) w (heads_only (Unsolved ss n) g i.0 k.equations.0.1 tt) in
        transport NextKept (sym e) (ruled ts (shown v) (shown w) es ss q r ((a, b), tt) (record { equations = k.equations.1; values = k.values; below = k.below; fresh = k.fresh }) d)

    pub unify_kept : {s : State} {o : Outcome} {m : ℕ} → Unify g fuel depth s o m → StateKept s → OutcomeKept o
    unify_kept (answers a) k = turn_kept a k
    unify_kept (goes a b) k = unify_kept b (turn_kept a k)
