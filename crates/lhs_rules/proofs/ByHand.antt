-- The examples, question by question.
use Rattle.std.proofs.Common.{◌≡◌, ℕ, [], ◌∷◌, refl, arith, sym, subst}
use Rattle.std.specs.Prelude.{List, map, false}
use Rattle.core_rules.specs.declared.Flag.TheVariants.{Explicit, Implicit}
use Rattle.core_rules.specs.Term.{Con, End, App, Sort, Fam, Def, Term, Pi}
use Rattle.core_rules.specs.Signature.{Signature, Context, Variable, Underscore, Written}
use Rattle.core_rules.specs.Substitution.{replace}
use Rattle.core_rules.specs.Mapped.{telescope_map}
use Rattle.core_rules.specs.Examples.{families}
use Rattle.core_rules.specs.Addition.{nat_type}
use Rattle.core_rules.specs.Heads as H
use Rattle.core_rules.specs.Heads.{Answer, Heads, Form, Bounded, Within, HeadOf, IsForm}
use Rattle.core_rules.specs.Bounded.{Verdict, No, AreSame, ConvOf, Decided, decide}
use Rattle.core_rules.specs.Unification as U
use Rattle.core_rules.specs.Unification.{St, eq, Depends}
use Rattle.core_rules.specs.Term.{Var, occurs}
use Rattle.core_rules.specs.Substitution.{value_at}
use Rattle.std.proofs.lemmas.Bool.{eqb-true}
use Rattle.std.specs.Prelude.{◌≢◌, ◌<◌, true, zero, suc}
use Rattle.std.proofs.Common.{inr}
use Rattle.core_rules.specs.Elimination.{Arg}
use Rattle.core_rules.specs.Addition.{suc_term, zero_term}
use Rattle.core_rules.specs.Examples.{pair_type}
use Rattle.core_rules.specs.BoundedLaws.{no_solutions}
use Rattle.core_rules.specs.Unification.{whole_types}
use Rattle.core_rules.specs.UnifierAnswers.{UnifiedBy, NeverUnified}
use Rattle.lhs_rules.specs.Spots.{Left, start}
use Rattle.lhs_rules.specs.Refusals.{at, WrongArity}
use Rattle.lhs_rules.proofs.Comes.{then_comes}
use Rattle.kernel_rules.specs.Outcome.{Refuses, stops}
use Rattle.unify_rules.specs.Unifier.{Solved, Conflict, Unify, Inject, Solve, Ends, answers, done, turn, goes, conflicts, injects, solves, other_con, same_con, left_one}
use Rattle.unify_rules.specs.Joined.{branch_of}
use Rattle.source_tree.specs.declared.place.Place.{Place}
use Rattle.core_rules.specs.Signature.{CheckedLeft}
use Rattle.kernel_rules.specs.Outcome.{Outcome}
use Rattle.need_rules.specs.Needs as needs
use Rattle.resolved_tree.specs.declared.resolved.ResolvedName.{ResolvedName}
use Rattle.resolved_tree.specs.declared.resolved.ResolvedPattern.{ResolvedPattern}
use Rattle.resolved_tree.specs.declared.resolved.ResolvedPattern.TheVariants as r
use Rattle.lhs_rules.specs.Refusals.{Refusal}
use Rattle.lhs_rules.specs.Asking.{Comes}
use Rattle.lhs_rules.specs.Rules.{ElimMeaning, pattern_inserted, one_elim, most_inserted}
use Rattle.lhs_rules.specs.Patterns.{AnswersWith, LeftOf, left_by, pattern_meaning, plain, variable, of_con, of_nothing}
use Rattle.lhs_rules.specs.Examples.{VariablesTaken, OnePatternTooMany, NumberNotAbsurd, BracesRefused, NoConstructorOfSet, ImplicitPatterns, FirstField, ConsImpossible, ConsMisaligned, ConsSolved, SolvedForced, TooManyInserted, clause, vec_type, hiding}
use Rattle.lhs_rules.proofs.Forms.{named_means, project_means, dotted_means, implicit_means, variable_means, con_means, underscore_means, absurd_means}

abbrev form : Term → Bounded
form t = Within (Form t []) 0

form_told : (g : Signature Term) (fuel : ℕ) (t : Term) → IsForm g t [] → HeadOf g no_solutions t fuel (form t)
form_told g fuel t f = (H.form f, omega arith)

-- no equations are solved at once
none_told : (g : Signature Term) (fuel d : ℕ) (c : Context Term) → AnswersWith g no_solutions fuel d c [] (UnifiedBy [] (branch_of (telescope_map (replace no_solutions) c) (whole_types 0 (telescope_map (replace no_solutions) c)) []))
none_told g fuel d c = record { outcome = Solved (whole_types 0 (telescope_map (replace no_solutions) c)) []; is = (0, answers done); says = refl }

-- ---- a clause by the meanings of its patterns

module _ (g : Signature Term) (fuel d : ℕ) where
  abbrev ByMeanings : Term → List ElimMeaning → Outcome Refusal (CheckedLeft Term) → Type 0
  ByMeanings a ms r = Comes g no_solutions fuel (AnswersWith g no_solutions fuel d) (left_by g 0 a ms) r

  by_meanings : (a : Term) (p : Place) (qs : List ResolvedPattern) (ms : List ElimMeaning) (r : Outcome Refusal (CheckedLeft Term)) → map (pattern_meaning g 0) qs ≡ ms
      → ByMeanings a ms r → LeftOf g no_solutions no_solutions fuel d a (clause p qs) r
  by_meanings a p qs ms r e x = subst (λ ms. ByMeanings a ms r) (sym e) x

abbrev var_of : ResolvedName → ElimMeaning
var_of x = plain (variable x.place.pos (Variable x.id false))

abbrev zero_of : Signature Term → Place → ElimMeaning
zero_of g q = plain (of_con g 0 q.pos 0 [])

abbrev number_function : ℕ → Term
number_function n = Pi Explicit n nat_type nat_type

pub variables_taken : VariablesTaken
unfolding one_elim
variables_taken fuel d n m p q x =
    let a = Pi Explicit n nat_type (number_function m) in
    by_meanings families fuel d a p (r.Variable x ∷ r.Underscore q ∷ []) (var_of x ∷ plain (variable q.pos Underscore) ∷ []) _ (rw (variable_means families 0 x, underscore_means families 0 q) refl)
    (form a, form_told families fuel a tt, (form (number_function m), form_told families fuel (number_function m) tt, refl))

pub one_pattern_too_many : OnePatternTooMany
unfolding one_elim
one_pattern_too_many fuel d n p q x =
    by_meanings families fuel d (number_function n) p (r.Con q 0 [] ∷ r.Variable x ∷ []) (zero_of families q ∷ var_of x ∷ []) _ (rw (con_means families 0 q 0 [], variable_means families 0 x) refl) (
      form (number_function n),
      form_told families fuel (number_function n) tt,
      (form nat_type, form_told families fuel nat_type tt, (_, none_told families fuel d [], (form nat_type, form_told families fuel nat_type tt, refl))),
    )

pub number_not_absurd : NumberNotAbsurd
unfolding one_elim
number_not_absurd fuel d n p q =
    by_meanings families fuel d (number_function n) p (r.Absurd q ∷ []) (plain (of_nothing families 0 q.pos) ∷ []) _ (rw (absurd_means families 0 q) refl)
    (form (number_function n), form_told families fuel (number_function n) tt, (form nat_type, form_told families fuel nat_type tt, (_, none_told families fuel d [], refl)))

pub braces_refused : BracesRefused
unfolding one_elim
braces_refused fuel d n p q x =
    by_meanings families fuel d (number_function n) p (r.Implicit q (r.Variable x) ∷ []) (record { pos = q.pos; next = needs.Braces (variable x.place.pos (Variable x.id false)) } ∷ []) _
    (rw (implicit_means families 0 q, variable_means families 0 x) refl)
    (form (number_function n), form_told families fuel (number_function n) tt, refl)

pub no_constructor_of_set : NoConstructorOfSet
unfolding one_elim
no_constructor_of_set fuel d n p q = (
  by_meanings families fuel d (Pi Explicit n (Sort 0) nat_type) p (r.Con q 0 [] ∷ []) (zero_of families q ∷ []) _ (rw (con_means families 0 q 0 []) refl)
      (form (Pi Explicit n (Sort 0) nat_type), form_told families fuel (Pi Explicit n (Sort 0) nat_type) tt, (form (Sort 0), form_told families fuel (Sort 0) tt, refl)),
  by_meanings families fuel d nat_type p (r.Project q 0 ∷ []) (record { pos = q.pos; next = needs.Field 0 } ∷ []) _ (rw (project_means families 0 q 0) refl) (form nat_type, form_told families fuel nat_type tt, refl),
)

pub implicit_patterns : ImplicitPatterns
unfolding one_elim
implicit_patterns fuel d n m p q i x e = (
  by_meanings families fuel d (Pi Implicit n nat_type (number_function m)) p (r.Variable x ∷ []) (var_of x ∷ []) _ (rw (variable_means families 0 x) refl)
      (form (Pi Implicit n nat_type (number_function m)), form_told families fuel (Pi Implicit n nat_type (number_function m)) tt, (form (number_function m), form_told families fuel (number_function m) tt, refl)),
  by_meanings families fuel d (Pi Implicit 7 nat_type (number_function m)) p (r.Named q (record { id = 7; place = i }) (r.Dotted i e) ∷ r.Variable x ∷ [])
      (record { pos = q.pos; next = needs.Named 7 (variable i.pos Written) } ∷ var_of x ∷ []) _
      (rw (named_means families 0 q (record { id = 7; place = i }) (r.Dotted i e), dotted_means families 0 i e, variable_means families 0 x) refl)
      (form (Pi Implicit 7 nat_type (number_function m)), form_told families fuel (Pi Implicit 7 nat_type (number_function m)) tt, (form (number_function m), form_told families fuel (number_function m) tt, refl)),
)

-- family d at two explicit arguments
abbrev at_two : ℕ → Term → Term → Bounded
at_two d t u = Within (Form (Fam d) (Arg Explicit t ∷ Arg Explicit u ∷ [])) 0

twice_told : (g : Signature Term) (fuel d : ℕ) (t u : Term) → HeadOf g no_solutions (App Explicit (App Explicit (Fam d) t) u) fuel (at_two d t u)
twice_told g fuel d t u = (H.argument (H.argument (H.form tt)), omega arith)

pub first_field : FirstField
unfolding one_elim
first_field fuel d n p q x =
    let a = Pi Explicit n nat_type (pair_type nat_type nat_type) in
    by_meanings families fuel d a p (r.Variable x ∷ r.Project q 0 ∷ []) (var_of x ∷ record { pos = q.pos; next = needs.Field 0 } ∷ []) _ (rw (variable_means families 0 x, project_means families 0 q 0) refl)
    (form a, form_told families fuel a tt, (at_two 2 nat_type nat_type, twice_told families fuel 2 nat_type nat_type, refl))

-- ---- vectors

suc_form : (t : Term) → Heads families no_solutions (suc_term t) [] (Form (Con 1 End) (Arg Explicit t ∷ [])) 0
suc_form t = H.argument (H.form refl)

one_is_not_zero : ◌≢◌ {A = ℕ} 1 0
one_is_not_zero e = absurd (omega (arith, e))

suc_is_not_zero : (t : Term) → AreSame no_solutions (suc_term t) zero_term → ⊥
suc_is_not_zero t h = let e = h.same in cc

vars_are_not_same : AreSame no_solutions (Var 2) (Var 3) → ⊥
vars_are_not_same h = let e = h.same in cc

sucs_are_not_same : AreSame no_solutions (suc_term (Var 2)) (suc_term (Var 3)) → ⊥
sucs_are_not_same h = let e = h.same in cc

-- the types of xs, x, m and n
abbrev cons_types : List Term
cons_types = vec_type (Var 2) ∷ nat_type ∷ nat_type ∷ nat_type ∷ []

nat_depends : (x : ℕ) → Depends cons_types nat_type x → ⊥
nat_depends x (U.stands e) = absurd cc
nat_depends x (U.through y e d) = absurd cc

n_free : (y : ℕ) → occurs y (Var 3) ≡ true → Depends cons_types (value_at cons_types y) 2 → ⊥
n_free y e d = let p : 3 ≡ y = eqb-true 3 y e in nat_depends 2 (subst (λ y. Depends cons_types (value_at cons_types y) 2) (sym p) d)

two_below : (y : ℕ) → Var 3 ≡ Var y → 2 < y
two_below y e = let p : 3 ≡ y = cc in omega arith

module _ (fuel : ℕ) where
  -- two terms that are not the same, by their head forms without a step
  apart : (d : ℕ) {t u : Term} {q : Verdict} → (AreSame no_solutions t u → ⊥) → (v w : Answer) → Heads families no_solutions t [] v 0 → Heads families no_solutions u [] w 0
      → Decided (ConvOf families no_solutions fuel d) (decide families (Within v 0) (Within w 0)) q → ConvOf families no_solutions fuel (suc d) t u q
  apart d n v w a b x = inr (n, record { left = Within v 0; right = Within w 0; is_left = (a, omega arith); is_right = (b, omega arith); decided = x })

  vars_differ : (d : ℕ) → ConvOf families no_solutions fuel (suc d) (Var 2) (Var 3) (No (Var 2) (Var 3) [])
  vars_differ d = apart d vars_are_not_same (Form (Var 2) []) (Form (Var 3) []) (H.form tt) (H.form tt) refl

  sucs_differ : (d : ℕ) → ConvOf families no_solutions fuel (suc (suc d)) (suc_term (Var 2)) (suc_term (Var 3)) (No (Var 2) (Var 3) [])
  sucs_differ d =
      apart (suc d) sucs_are_not_same (Form (Con 1 End) (Arg Explicit (Var 2) ∷ [])) (Form (Con 1 End) (Arg Explicit (Var 3) ∷ [])) (suc_form (Var 2)) (suc_form (Var 3))
      (inr (No (Var 2) (Var 3) [], vars_differ d, (λ e. cc), refl))

  -- suc t = zero is a conflict
  refuted_told : (d : ℕ) (ts : List Term) (t : Term) → Unify families fuel (suc d) (St ts (eq (suc_term t) zero_term ∷ []) []) (Conflict 1 0) 0
  refuted_told d ts t = answers (turn (No (suc_term t) zero_term []) (Ends (Conflict 1 0)) (suc_form t, omega arith) (H.form refl, omega arith)
      (apart d (suc_is_not_zero t) (Form (Con 1 End) (Arg Explicit t ∷ [])) (Form zero_term []) (suc_form t) (H.form refl) refl)
      (conflicts (other_con {xs = Arg Explicit t ∷ []} {ys = []} refl refl one_is_not_zero)) refl)

  -- suc m = suc n solves m
  solved_told : (d : ℕ)
      → Unify families fuel (suc (suc d)) (St cons_types (eq (suc_term (Var 2)) (suc_term (Var 3)) ∷ []) []) (Solved (map (U.put 2 (Var 3)) cons_types) (record { var = 2; value = Var 3 } ∷ [])) 2
  solved_told d = goes (turn (No (Var 2) (Var 3) []) (Inject (eq (Var 2) (Var 3) ∷ [])) (suc_form (Var 2), omega arith) (suc_form (Var 3), omega arith) (sucs_differ d)
      (injects (same_con {k = 1} {xs = Arg Explicit (Var 2) ∷ []} {ys = Arg Explicit (Var 3) ∷ []} refl refl (U.pair U.no_pair))) refl)
      (goes (turn (No (Var 2) (Var 3) []) (Solve 2 (Var 3)) (H.form tt, omega arith) (H.form tt, omega arith) (vars_differ (suc d))
      (solves (left_one (record { absent = refl; free = n_free }) (λ y e c. two_below y e))) refl)
      (answers done))

abbrev at_zero_type : ℕ → Term
at_zero_type n = Pi Explicit n (vec_type zero_term) nat_type

abbrev cons_of : Place → List ElimMeaning → ElimMeaning
cons_of q ms = plain (of_con families 0 q.pos 3 ms)

pub cons_impossible : ConsImpossible
unfolding one_elim
cons_impossible fuel d n p q x xs =
    by_meanings families fuel (suc d) (at_zero_type n) p (r.Con q 3 (r.Variable x ∷ r.Variable xs ∷ []) ∷ []) (cons_of q (var_of x ∷ var_of xs ∷ []) ∷ []) _
    (rw (con_means families 0 q 3 (r.Variable x ∷ r.Variable xs ∷ []), variable_means families 0 x, variable_means families 0 xs) refl) (
      form (at_zero_type n),
      form_told families fuel (at_zero_type n) tt,
      (
        at_two 1 nat_type zero_term,
        twice_told families fuel 1 nat_type zero_term,
        (NeverUnified, record { outcome = Conflict 1 0; is = (0, refuted_told fuel d _ (Var 2)); says = refl }, refl),
      ),
    )

pub cons_misaligned : ConsMisaligned
unfolding one_elim
cons_misaligned fuel d n p q i x xs = (
  by_meanings families fuel d (at_zero_type n) p (r.Con q 3 (r.Variable x ∷ []) ∷ []) (cons_of q (var_of x ∷ []) ∷ []) _
      (rw (con_means families 0 q 3 (r.Variable x ∷ []), variable_means families 0 x) refl)
      (form (at_zero_type n), form_told families fuel (at_zero_type n) tt, (at_two 1 nat_type zero_term, twice_told families fuel 1 nat_type zero_term, refl)),
  by_meanings families fuel d (at_zero_type n) p (r.Con q 3 (r.Variable x ∷ r.Implicit i (r.Variable xs) ∷ []) ∷ [])
      (cons_of q (var_of x ∷ record { pos = i.pos; next = needs.Braces (variable xs.place.pos (Variable xs.id false)) } ∷ []) ∷ []) _
      (rw (con_means families 0 q 3 (r.Variable x ∷ r.Implicit i (r.Variable xs) ∷ []), implicit_means families 0 i, variable_means families 0 x, variable_means families 0 xs) refl)
      (form (at_zero_type n), form_told families fuel (at_zero_type n) tt, (at_two 1 nat_type zero_term, twice_told families fuel 1 nat_type zero_term, refl)),
)

abbrev at_suc_type : ℕ → Term
at_suc_type v = Pi Explicit v (vec_type (suc_term (Var 0))) nat_type

pub cons_solved : ConsSolved
unfolding one_elim
cons_solved fuel d n v p q i k m x xs =
    let qs = r.Implicit i (r.Variable m) ∷ r.Variable x ∷ r.Variable xs ∷ [] in
    by_meanings families fuel (suc (suc d)) (Pi Explicit n nat_type (at_suc_type v)) p (r.Variable k ∷ r.Con q 3 qs ∷ [])
    (var_of k ∷ cons_of q (record { pos = i.pos; next = needs.Braces (variable m.place.pos (Variable m.id false)) } ∷ var_of x ∷ var_of xs ∷ []) ∷ []) _
    (rw (con_means families 0 q 3 qs, implicit_means families 0 i, variable_means families 0 k, variable_means families 0 m, variable_means families 0 x, variable_means families 0 xs) refl) (
      form (Pi Explicit n nat_type (at_suc_type v)),
      form_told families fuel (Pi Explicit n nat_type (at_suc_type v)) tt,
      (
        form (at_suc_type v),
        form_told families fuel (at_suc_type v) tt,
        (
          at_two 1 nat_type (suc_term (Var 0)),
          twice_told families fuel 1 nat_type (suc_term (Var 0)),
          (_, record { outcome = Solved (map (U.put 2 (Var 3)) cons_types) (record { var = 2; value = Var 3 } ∷ []); is = (2, solved_told fuel d); says = refl }, refl),
        ),
      ),
    )

pub solved_forced : SolvedForced
unfolding one_elim
solved_forced fuel d n v p q i z k x xs =
    let qs = r.Implicit i (r.Con z 0 []) ∷ r.Variable x ∷ r.Variable xs ∷ [] in
    by_meanings families fuel (suc (suc d)) (Pi Explicit n nat_type (at_suc_type v)) p (r.Variable k ∷ r.Con q 3 qs ∷ [])
    (var_of k ∷ cons_of q (record { pos = i.pos; next = needs.Braces (of_con families 0 z.pos 0 []) } ∷ var_of x ∷ var_of xs ∷ []) ∷ []) _
    (rw (con_means families 0 q 3 qs, implicit_means families 0 i, variable_means families 0 k, con_means families 0 z 0 [], variable_means families 0 x, variable_means families 0 xs) refl) (
      form (Pi Explicit n nat_type (at_suc_type v)),
      form_told families fuel (Pi Explicit n nat_type (at_suc_type v)) tt,
      (
        form (at_suc_type v),
        form_told families fuel (at_suc_type v) tt,
        (
          at_two 1 nat_type (suc_term (Var 0)),
          twice_told families fuel 1 nat_type (suc_term (Var 0)),
          (
            _,
            record { outcome = Solved (map (U.put 2 (Var 3)) cons_types) (record { var = 2; value = Var 3 } ∷ []); is = (2, solved_told fuel d); says = refl },
            (form nat_type, form_told families fuel nat_type tt, refl),
          ),
        ),
      ),
    )

-- ---- patterns without end

hides : (fuel n : ℕ) → HeadOf (hiding n) no_solutions (Def 0) (suc fuel) (Within (Form (Pi Implicit n nat_type (Def 0)) []) 1)
hides fuel n = (H.call refl (H.leaf (H.form tt)), omega arith)

refused_at : (fuel d n : ℕ) (x : ResolvedName) (room : ℕ) (k : Left) → k.ty ≡ Def 0
    → Comes (hiding n) no_solutions (suc fuel) (AnswersWith (hiding n) no_solutions (suc fuel) d) (one_elim (hiding n) 0 (var_of x) room k) (Refuses (at x.place.pos WrongArity))
unfolding one_elim
refused_at fuel d n x zero k e = rw e (Within (Form (Pi Implicit n nat_type (Def 0)) []) 1, hides fuel n, refl)
refused_at fuel d n x (suc room) k e = rw e (Within (Form (Pi Implicit n nat_type (Def 0)) []) 1, hides fuel n, refused_at fuel d n x room (pattern_inserted k (Form (Pi Implicit n nat_type (Def 0)) []) nat_type (Def 0)) refl)

pub too_many_inserted : TooManyInserted
too_many_inserted fuel d n p x =
    by_meanings (hiding n) (suc fuel) d (Def 0) p (r.Variable x ∷ []) (var_of x ∷ []) _ (rw (variable_means (hiding n) 0 x) refl)
    (then_comes (hiding n) no_solutions (suc fuel) (AnswersWith (hiding n) no_solutions (suc fuel) d) _ _ _ (stops _ (then_comes (hiding n) no_solutions (suc fuel) (AnswersWith (hiding n) no_solutions (suc fuel) d) _ _ _ (stops _ (refused_at fuel d n x most_inserted (start (Def 0)) refl) refl)) refl))
