-- What the unifier answers comes by steps of unification.
use Rattle.std.specs.Prelude.{ℕ, List, [], ◌∷◌, ◌++◌}
use Rattle.std.proofs.Common.{sym, subst as transport}
use Rattle.core_rules.specs.Term.{Term}
use Rattle.core_rules.specs.Signature.{Signature}
use Rattle.core_rules.specs.Conversion.{Conv}
use Rattle.core_rules.specs.Bounded as B
use Rattle.core_rules.specs.Bounded.{Verdict, Yes, No, WaitsFor, ConvOf}
use Rattle.core_rules.specs.BoundedLaws.{no_solutions, shown}
use Rattle.core_rules.specs.Unification as U
use Rattle.core_rules.specs.Unification.{Equation, eq, Solution, State, St, HasClash, Step, stop, go}
use Rattle.core_rules.proofs.Heads.Fit.{HasFitTrees}
use Rattle.core_rules.proofs.Heads.Sound.{heads_sound}
use Rattle.unify_rules.specs.Unifier.{Outcome, Solved, Conflict, Cycle, Stuck, OutOfFuel, OutOfDepth, Rule, Chosen, left_one, right_one, SameCon, same_con, OtherCon, other_con, Cycles, cycles_left, cycles_right, Applies, solves, injects, conflicts, cycles, sticks, Ruled, Next, Answers, Goes, after, Turn, done, out_left, out_right, turn, Unify, answers, goes}
use Rattle.unify_rules.specs.UnifierLaws.{Says, Clashes}

-- what follows from a state follows from one before it
first : {g : Signature Term} {s s' : State} (o : Outcome) → Step g s s' → Says g s' o → Says g s o
first (Solved ts ss) a b = go a b
first (Conflict j k) a b = record { types = b.types; equations = b.equations; solved = b.solved; steps = go a b.steps; clash = b.clash }
first (Cycle x) a b = record { types = b.types; equations = b.equations; solved = b.solved; steps = go a b.steps; clash = b.clash }
first (Stuck t u) a b = tt
first OutOfFuel a b = tt
first OutOfDepth a b = tt

solve_step : {g : Signature Term} {ts : List Term} {es : List Equation} {ss : List Solution} {t u v : Term} {x : ℕ} → Chosen ts t u x v → Step g (St ts (eq t u ∷ es) ss) (U.solve x v ts es ss)
solve_step {es = es} (left_one h l) = U.solve_left [] es h
solve_step {es = es} (right_one h l) = U.solve_right [] es h

inject_step : {g : Signature Term} {ts : List Term} {es qs : List Equation} {ss : List Solution} {t u : Term} → SameCon t u qs → Step g (St ts (eq t u ∷ es) ss) (St ts (qs ++ es) ss)
inject_step {es = es} (same_con a b p) = U.inject _ _ [] es a b p

conflict_clash : {es : List Equation} {t u : Term} {j k : ℕ} → OtherCon t u j k → HasClash (eq t u ∷ es)
conflict_clash (other_con a b n) = U.conflict a b n

cycle_clash : {es : List Equation} {t u : Term} {x : ℕ} → Cycles t u x → HasClash (eq t u ∷ es)
cycle_clash (cycles_left h) = U.cycle_left h
cycle_clash (cycles_right h) = U.cycle_right h

module _ (g : Signature Term) (fuel depth : ℕ) (trees : HasFitTrees g) (yes : (t u : Term) → ConvOf g no_solutions fuel depth t u Yes → Conv g t u) where
  abbrev NextSays : State → Next → Type 0
  NextSays s (Answers o) = Says g s o
  NextSays s (Goes s') = (o : Outcome) → Says g s' o → Says g s o

  here : {ts : List Term} {es : List Equation} {ss : List Solution} → HasClash es → Clashes g (St ts es ss)
  here {ts} {es} {ss} c = record { types = ts; equations = es; solved = ss; steps = stop; clash = c }

  applied : {ts : List Term} {t u : Term} (es : List Equation) (ss : List Solution) {r : Rule} → Applies ts t u r → NextSays (St ts (eq t u ∷ es) ss) (after r ts es ss)
  applied es ss (solves c) = λ o b. first o (solve_step c) b
  applied es ss (injects c) = λ o b. first o (inject_step c) b
  applied es ss (conflicts c) = here (conflict_clash c)
  applied es ss (cycles c) = here (cycle_clash c)
  applied es ss (sticks n) = tt

  before : {s s' : State} (x : Next) → Step g s s' → NextSays s' x → NextSays s x
  before (Answers o) a b = first o a b
  before (Goes z) a b = λ o c. first o a (b o c)

  ruled : (ts : List Term) (t u v w : Term) (es : List Equation) (ss : List Solution) (q : Verdict) (r : Rule) → Conv g t v → Conv g u w → ConvOf g no_solutions fuel depth t u q → Ruled ts v w q r → NextSays (St ts (eq t u ∷ es) ss) (after r ts es ss)
  ruled ts t u v w es ss Yes r a b c d = transport (λ r. NextSays (St ts (eq t u ∷ es) ss) (after r ts es ss)) (sym d) (λ o b. first o (U.delete [] es (yes t u c)) b)
  ruled ts t u v w es ss B.OutOfFuel r a b c d = transport (λ r. NextSays (St ts (eq t u ∷ es) ss) (after r ts es ss)) (sym d) tt
  ruled ts t u v w es ss B.OutOfDepth r a b c d = transport (λ r. NextSays (St ts (eq t u ∷ es) ss) (after r ts es ss)) (sym d) tt
  ruled ts t u v w es ss (No x y xs) r a b c d = before (after r ts es ss) (U.exchange [] es a b) (applied es ss d)
  ruled ts t u v w es ss (WaitsFor m) r a b c d = before (after r ts es ss) (U.exchange [] es a b) (applied es ss d)

  turn_says : {s : State} {x : Next} → Turn g fuel depth s x → NextSays s x
  turn_says done = stop
  turn_says (out_left h) = tt
  turn_says (out_right h k) = tt
  turn_says (turn {ts = ts} {t = t} {u = u} {es = es} {ss = ss} {v = v} {w = w} q r h k c d e) =
      transport (NextSays (St ts (eq t u ∷ es) ss)) (sym e) (ruled ts t u (shown v) (shown w) es ss q r (heads_sound g trees h.0) (heads_sound g trees k.0) c d)

  pub unify_says : {s : State} {o : Outcome} {n : ℕ} → Unify g fuel depth s o n → Says g s o
  unify_says (answers a) = turn_says a
  unify_says {o = o} (goes a b) = turn_says a o (unify_says b)
