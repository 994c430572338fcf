-- The unifications worked by hand.
use Rattle.std.specs.Prelude.{◌≡◌, ◌≢◌, ℕ, ◌<◌, true, List, [], ◌∷◌, map, refl, suc}
use Rattle.std.proofs.Common.{sym, subst as transport, arith, inl, inr}
use Rattle.std.proofs.lemmas.Bool.{eqb-true}
use Rattle.core_rules.specs.Term.{Term, Var, Sort, Lam, App, Con, End, occurs}
use Rattle.core_rules.specs.Substitution.{value_at}
use Rattle.core_rules.specs.Elimination.{Arg}
use Rattle.core_rules.specs.declared.Flag.TheVariants.{Explicit}
use Rattle.core_rules.specs.Heads.{Answer, Form, Within, Heads, form, argument, beta}
use Rattle.core_rules.specs.Bounded as B
use Rattle.core_rules.specs.Bounded.{Verdict, Yes, No, decide, Decided, AreSame, ConvOf}
use Rattle.core_rules.specs.BoundedLaws.{no_solutions}
use Rattle.core_rules.specs.Addition.{nat_type, zero_term, suc_term}
use Rattle.core_rules.specs.VectorHead.{vectors}
use Rattle.core_rules.specs.Unification as U
use Rattle.core_rules.proofs.Heads.OneAnswer.{heads_one}
use Rattle.core_rules.specs.Unification.{Equation, eq, Depends, CanSolve, whole_types}
use Rattle.unify_rules.specs.Unifier.{Conflict, Cycle, Stuck, OutOfDepth, Delete, Solve, Inject, Ends, Chosen, left_one, right_one, SameCon, same_con, OtherCon, other_con, Cycles, cycles_left, solves, injects, conflicts, cycles, sticks, done, out_left, turn, answers, goes}
use Rattle.unify_rules.specs.Rows.{cons_arguments, ConsSolved, NilRefuted, CycleRefuted, three, OrderChanged, two, VariableDeleted, LaterSolved, EarlierSolved, SortStuck, DepthNeeded, FuelNeeded}

suc_form : (t : Term) → Heads vectors no_solutions (suc_term t) [] (Form (Con 1 End) (Arg Explicit t ∷ [])) 0
suc_form t = argument (form refl)

zero_not_one : ◌≢◌ {A = ℕ} 0 1
zero_not_one e = absurd (omega (arith, e))

zero_is_not_suc : AreSame no_solutions (Con 0 End) (suc_term (Var 0)) → ⊥
zero_is_not_suc h = let e = h.same in cc

var_is_not_suc : (i : ℕ) → AreSame no_solutions (Var i) (suc_term (Var 0)) → ⊥
var_is_not_suc i h = let e = h.same in cc

vars_are_not_same : AreSame no_solutions (Var 2) (Var 3) → ⊥
vars_are_not_same h = let e = h.same in cc

sucs_are_not_same : AreSame no_solutions (suc_term (Var 2)) (suc_term (Var 3)) → ⊥
sucs_are_not_same h = let e = h.same in cc

-- two terms that are not the same, by their head forms without a step
apart : (depth : ℕ) {t u : Term} {q : Verdict} → (AreSame no_solutions t u → ⊥) → (v w : Answer) → Heads vectors no_solutions t [] v 0 → Heads vectors no_solutions u [] w 0
    → Decided (ConvOf vectors no_solutions 0 depth) (decide vectors (Within v 0) (Within w 0)) q → ConvOf vectors no_solutions 0 (suc depth) t u q
apart depth n v w a b d = inr (n, record { left = Within v 0; right = Within w 0; is_left = (a, omega arith); is_right = (b, omega arith); decided = d })

pub nil_refuted : NilRefuted
nil_refuted = answers (turn (No (Con 0 End) (suc_term (Var 0)) []) (Ends (Conflict 0 1)) (form refl, omega arith) (suc_form (Var 0), omega arith)
    (apart 0 zero_is_not_suc (Form (Con 0 End) []) (Form (Con 1 End) (Arg Explicit (Var 0) ∷ [])) (form refl) (suc_form (Var 0)) refl)
    (conflicts (other_con {xs = []} {ys = Arg Explicit (Var 0) ∷ []} refl refl zero_not_one)) refl)

pub cycle_refuted : CycleRefuted
cycle_refuted = answers (turn (No (Var 0) (suc_term (Var 0)) []) (Ends (Cycle 0)) (form tt, omega arith) (suc_form (Var 0), omega arith)
    (apart 0 (var_is_not_suc 0) (Form (Var 0) []) (Form (Con 1 End) (Arg Explicit (Var 0) ∷ [])) (form tt) (suc_form (Var 0)) refl)
    (cycles (cycles_left (U.inside {k = 1} {es = Arg Explicit (Var 0) ∷ []} refl U.it))) refl)

nat_cons : (x : ℕ) → Depends (whole_types 0 cons_arguments) nat_type x → ⊥
nat_cons x (U.stands e) = absurd cc
nat_cons x (U.through y e d) = absurd cc

n_free : (y : ℕ) → occurs y (Var 3) ≡ true → Depends (whole_types 0 cons_arguments) (value_at (whole_types 0 cons_arguments) y) 2 → ⊥
n_free y e d = let p : 3 ≡ y = eqb-true 3 y e in nat_cons 2 (transport (λ y. Depends (whole_types 0 cons_arguments) (value_at (whole_types 0 cons_arguments) y) 2) (sym p) d)

m_free : (y : ℕ) → occurs y (Var 2) ≡ true → Depends (whole_types 0 cons_arguments) (value_at (whole_types 0 cons_arguments) y) 3 → ⊥
m_free y e d = let p : 2 ≡ y = eqb-true 2 y e in nat_cons 3 (transport (λ y. Depends (whole_types 0 cons_arguments) (value_at (whole_types 0 cons_arguments) y) 3) (sym p) d)

two_below : (y : ℕ) → Var 3 ≡ Var y → 2 < y
two_below y e = let p : 3 ≡ y = cc in omega arith

vars_differ : ConvOf vectors no_solutions 0 1 (Var 2) (Var 3) (No (Var 2) (Var 3) [])
vars_differ = apart 0 vars_are_not_same (Form (Var 2) []) (Form (Var 3) []) (form tt) (form tt) refl

vars_differ_deeper : ConvOf vectors no_solutions 0 2 (Var 2) (Var 3) (No (Var 2) (Var 3) [])
vars_differ_deeper = apart 1 vars_are_not_same (Form (Var 2) []) (Form (Var 3) []) (form tt) (form tt) refl

sucs_differ : ConvOf vectors no_solutions 0 2 (suc_term (Var 2)) (suc_term (Var 3)) (No (Var 2) (Var 3) [])
sucs_differ =
    apart 1 sucs_are_not_same (Form (Con 1 End) (Arg Explicit (Var 2) ∷ [])) (Form (Con 1 End) (Arg Explicit (Var 3) ∷ [])) (suc_form (Var 2)) (suc_form (Var 3)) (inr (No (Var 2) (Var 3) [], vars_differ, (λ e. cc), refl))

pub cons_solved : ConsSolved
cons_solved = (
  _,
  _,
  goes (turn (No (Var 2) (Var 3) []) (Inject (eq (Var 2) (Var 3) ∷ [])) (suc_form (Var 2), omega arith) (suc_form (Var 3), omega arith) sucs_differ
      (injects (same_con {k = 1} {xs = Arg Explicit (Var 2) ∷ []} {ys = Arg Explicit (Var 3) ∷ []} refl refl (U.pair U.no_pair))) refl)
      (goes (turn (No (Var 2) (Var 3) []) (Solve 2 (Var 3)) (form tt, omega arith) (form tt, omega arith) vars_differ_deeper
      (solves (left_one (record { absent = refl; free = n_free }) (λ y e c. two_below y e))) refl)
      (answers done)),
  refl,
)

nat_three : (x : ℕ) → Depends (whole_types 0 three) nat_type x → ⊥
nat_three x (U.stands e) = absurd cc
nat_three x (U.through y e d) = absurd cc

b_free : (y : ℕ) → occurs y (suc_term (Var 0)) ≡ true → Depends (whole_types 0 three) (value_at (whole_types 0 three) y) 2 → ⊥
b_free y e d = let p : 0 ≡ y = eqb-true 0 y e in nat_three 2 (transport (λ y. Depends (whole_types 0 three) (value_at (whole_types 0 three) y) 2) (sym p) d)

pub order_changed : OrderChanged
order_changed = (
  _,
  _,
  goes (turn (No (Var 2) (suc_term (Var 0)) []) (Solve 2 (suc_term (Var 0))) (form tt, omega arith) (suc_form (Var 0), omega arith)
      (apart 0 (var_is_not_suc 2) (Form (Var 2) []) (Form (Con 1 End) (Arg Explicit (Var 0) ∷ [])) (form tt) (suc_form (Var 0)) refl)
      (solves (left_one (record { absent = refl; free = b_free }) (λ y e c. absurd (cc e)))) refl)
      (answers done),
  refl,
)

same_term : (t : Term) → AreSame no_solutions t t
same_term t = record { acyclic = record { rank = λ m. 0; falls = λ m t e. absurd cc }; same = refl }

pub variable_deleted : VariableDeleted
variable_deleted = (_, goes (turn Yes Delete (form tt, omega arith) (form tt, omega arith) (inl (same_term (Var 0), refl)) refl refl) (answers done))

vars_apart : AreSame no_solutions (Var 1) (Var 0) → ⊥
vars_apart h = let e = h.same in cc

vars_differ_below : ConvOf vectors no_solutions 0 1 (Var 1) (Var 0) (No (Var 1) (Var 0) [])
vars_differ_below = apart 0 vars_apart (Form (Var 1) []) (Form (Var 0) []) (form tt) (form tt) refl

nat_two : (x : ℕ) → Depends (whole_types 0 two) nat_type x → ⊥
nat_two x (U.stands e) = absurd cc
nat_two x (U.through y e d) = absurd cc

first_free : (y : ℕ) → occurs y (Var 1) ≡ true → Depends (whole_types 0 two) (value_at (whole_types 0 two) y) 0 → ⊥
first_free y e d = let p : 1 ≡ y = eqb-true 1 y e in nat_two 0 (transport (λ y. Depends (whole_types 0 two) (value_at (whole_types 0 two) y) 0) (sym p) d)

later_place : (x : ℕ) → Var 1 ≡ Var x → 0 < x
later_place x e = let p : 1 ≡ x = cc in omega arith

pub later_solved : LaterSolved
later_solved = (
  _,
  goes (turn (No (Var 1) (Var 0) []) (Solve 0 (Var 1)) (form tt, omega arith) (form tt, omega arith) vars_differ_below
      (solves (right_one (record { absent = refl; free = first_free }) (λ x e c. later_place x e))) refl)
      (answers done),
)

-- the types after a = suc b
abbrev after_first : List Term
after_first = map (U.put 2 (suc_term (Var 0))) (whole_types 0 three)

nat_after : (x : ℕ) → Depends after_first nat_type x → ⊥
nat_after x (U.stands e) = absurd cc
nat_after x (U.through y e d) = absurd cc

b_free_after : (y : ℕ) → occurs y (Var 0) ≡ true → Depends after_first (value_at after_first y) 1 → ⊥
b_free_after y e d = let p : 0 ≡ y = eqb-true 0 y e in nat_after 1 (transport (λ y. Depends after_first (value_at after_first y) 1) (sym p) d)

-- b can not be solved by v, whose type depends on b
not_later : (y : ℕ) → Var 0 ≡ Var y → CanSolve after_first y (Var 1) → 1 < y
not_later y e c =
    let p : 0 ≡ y = cc in
    let d : CanSolve after_first 0 (Var 1) = transport (λ y. CanSolve after_first y (Var 1)) (sym p) c in
    absurd (d.free 1 refl (U.stands refl))

pub earlier_solved : EarlierSolved
earlier_solved = (
  _,
  goes (turn (No (Var 2) (suc_term (Var 0)) []) (Solve 2 (suc_term (Var 0))) (form tt, omega arith) (suc_form (Var 0), omega arith)
      (apart 0 (var_is_not_suc 2) (Form (Var 2) []) (Form (Con 1 End) (Arg Explicit (Var 0) ∷ [])) (form tt) (suc_form (Var 0)) refl)
      (solves (left_one (record { absent = refl; free = b_free }) (λ y e c. absurd (cc e)))) refl)
      (goes (turn (No (Var 1) (Var 0) []) (Solve 1 (Var 0)) (form tt, omega arith) (form tt, omega arith) vars_differ_below
      (solves (left_one (record { absent = refl; free = b_free_after }) not_later)) refl)
      (answers done)),
)

sort_is_not_nat : AreSame no_solutions (Sort 0) nat_type → ⊥
sort_is_not_nat h = let e = h.same in cc

no_choice : (ts : List Term) (x : ℕ) (v : Term) → Chosen ts (Sort 0) nat_type x v → ⊥
no_choice ts x v c = elim c [ ]

no_cycle : (x : ℕ) → Cycles (Sort 0) nat_type x → ⊥
no_cycle x c = elim c [ ]

no_injection : (qs : List Equation) → SameCon (Sort 0) nat_type qs → ⊥
no_injection qs (same_con a b p) = cc

no_conflict : (j k : ℕ) → OtherCon (Sort 0) nat_type j k → ⊥
no_conflict j k (other_con a b n) = cc

pub sort_stuck : SortStuck
sort_stuck = answers (turn (No (Sort 0) nat_type []) (Ends (Stuck (Sort 0) nat_type)) (form tt, omega arith) (form tt, omega arith)
    (apart 0 sort_is_not_nat (Form (Sort 0) []) (Form nat_type []) (form tt) (form tt) refl)
    (sticks (record { no_solve = no_choice []; no_inject = no_injection; no_conflict = no_conflict; no_cycle = no_cycle })) refl)

pub depth_needed : DepthNeeded
depth_needed = answers (turn B.OutOfDepth (Ends OutOfDepth) (form refl, omega arith) (form refl, omega arith) refl refl refl)

redex_steps : Heads vectors no_solutions (App Explicit (Lam Explicit 0 nat_type (Var 0)) zero_term) [] (Form zero_term []) 1
redex_steps = argument (beta refl (form refl))

pub fuel_needed : FuelNeeded
fuel_needed = answers (out_left (λ w n d. let e : 1 ≡ n = (heads_one redex_steps d).1 in omega arith))
