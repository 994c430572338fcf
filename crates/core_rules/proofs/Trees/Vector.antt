-- The case tree of the first item of a vector is typed.
use Rattle.std.specs.Prelude.{◌≡◌, ◌≢◌, ℕ, true, [], ◌∷◌, slice_get, Some, refl, zero, suc}
use Rattle.std.proofs.Common.{sym, subst as transport, arith}
use Rattle.std.proofs.lemmas.Bool.{eqb-true}
use Rattle.core_rules.specs.declared.Flag.TheVariants.{Explicit, Implicit}
use Rattle.core_rules.specs.Term.{Term, Var, Sort, Pi, Fam, Con, End, occurs}
use Rattle.core_rules.specs.Substitution.{value_at}
use Rattle.core_rules.specs.Signature.{Context, onto}
use Rattle.core_rules.specs.Conversion as C
use Rattle.core_rules.specs.Typing as T
use Rattle.core_rules.specs.Typing.{Typing, entry}
use Rattle.core_rules.specs.Unification as U
use Rattle.core_rules.specs.Unification.{eq, Solution, Depends, Solves, Refutes, Realises, whole_types}
use Rattle.core_rules.specs.TypedTree as Y
use Rattle.core_rules.specs.TypedTree.{IsAt}
use Rattle.core_rules.specs.Examples.{vec}
use Rattle.core_rules.specs.Addition.{nat_type, suc_term}
use Rattle.core_rules.specs.VectorHead.{vector, at_cons, vectors, FirstTyped}

abbrev given : Context Term
given = entry Explicit 1 (vector (suc_term (Var 0))) ∷ entry Explicit 0 nat_type ∷ []

abbrev at_vector : IsAt vectors given 0 1
at_vector = record { entry = entry Explicit 1 (vector (suc_term (Var 0))); decl = vec; params = nat_type ∷ []; indices = suc_term (Var 0) ∷ []; stands = refl; is_decl = refl; as_many = refl; as_many_indices = refl; is = C.same }

-- zero is no successor
abbrev at_nil : Context Term
at_nil = entry Explicit 0 nat_type ∷ []

zero_not_one : ◌≢◌ {A = ℕ} 0 1
zero_not_one e = absurd (omega (arith, e))

nil_refuted : Refutes vectors at_nil (eq (Con 0 End) (suc_term (Var 0)) ∷ [])
nil_refuted = record { types = _; equations = _; solved = []; steps = U.stop; clash = U.conflict refl refl zero_not_one }

-- the arguments of cons, m, x and xs, after n
abbrev arguments : Context Term
arguments = entry Explicit 9 (vector (Var 1)) ∷ entry Explicit 8 nat_type ∷ entry Implicit 7 nat_type ∷ entry Explicit 0 nat_type ∷ []

nat_depends : (x : ℕ) → Depends (whole_types 0 arguments) nat_type x → ⊥
nat_depends x (U.stands e) = absurd cc
nat_depends x (U.through y e d) = absurd cc

n_free : (y : ℕ) → occurs y (Var 3) ≡ true → Depends (whole_types 0 arguments) (value_at (whole_types 0 arguments) y) 2 → ⊥
n_free y e d = let p : 3 ≡ y = eqb-true 3 y e in nat_depends 2 (transport (λ y. Depends (whole_types 0 arguments) (value_at (whole_types 0 arguments) y) 2) (sym p) d)

-- suc m is suc n, so that m is n
abbrev m_is_n : Solution
m_is_n = record { var = 2; value = Var 3 }

cons_solved : Solves vectors arguments (eq (suc_term (Var 2)) (suc_term (Var 3)) ∷ []) (m_is_n ∷ [])
cons_solved = record {
  types = _;
  steps = U.go (U.inject {qs = eq (Var 2) (Var 3) ∷ []} (suc_term (Var 2)) (suc_term (Var 3)) [] [] refl refl (U.pair U.no_pair))
      (U.go (U.solve_left {x = 2} {t = Var 3} [] [] (record { absent = refl; free = n_free })) U.stop);
}

keeps : (j k : ℕ) → slice_get (0 ∷ 1 ∷ 3 ∷ []) j ≡ Some k → slice_get (Var 0 ∷ Var 1 ∷ Var 2 ∷ Var 2 ∷ []) k ≡ Some (Var j)
keeps zero k e = let p : 0 ≡ k = cc e in transport (λ k. slice_get (Var 0 ∷ Var 1 ∷ Var 2 ∷ Var 2 ∷ []) k ≡ Some (Var 0)) p refl
keeps (suc zero) k e = let p : 1 ≡ k = cc e in transport (λ k. slice_get (Var 0 ∷ Var 1 ∷ Var 2 ∷ Var 2 ∷ []) k ≡ Some (Var 1)) p refl
keeps (suc (suc zero)) k e = let p : 3 ≡ k = cc e in transport (λ k. slice_get (Var 0 ∷ Var 1 ∷ Var 2 ∷ Var 2 ∷ []) k ≡ Some (Var 2)) p refl
keeps (suc (suc (suc j))) k e = absurd cc

abbrev kept : Context Term
kept = entry Explicit 9 (vector (Var 1)) ∷ entry Explicit 8 nat_type ∷ entry Explicit 0 nat_type ∷ []

nat_var : (i x : ℕ) → slice_get kept i ≡ Some (entry Explicit x nat_type) → Typing vectors kept (Var i) nat_type
nat_var i x e = T.var e

cons_realises : Realises vectors arguments (m_is_n ∷ []) (onto at_cons.context []) at_cons.values at_cons.keep
cons_realises = record {
  joins = record { long = refl; scoped = (omega arith, (omega arith, (omega arith, (omega arith, tt)))); values = (refl, tt); as_many = refl; kept = keeps };
  formed = T.extended (T.extended (T.extended T.empty (record { level = 0; holds = T.fam refl })) (record { level = 0; holds = T.fam refl }))
      (record { level = 0; holds = T.app {v = Sort 0} (T.app {v = Pi Explicit 11 (Fam 0) (Sort 0)} (T.fam refl) (T.fam refl)) (T.var {e = entry Explicit 0 nat_type} refl) });
  fits = T.more (T.more (T.more (T.more T.none (nat_var 2 0 refl)) (nat_var 2 0 refl)) (nat_var 1 8 refl)) (T.var {e = entry Explicit 9 (vector (Var 1))} refl);
}

pub first_typed : FirstTyped
first_typed = Y.intro C.same (Y.intro C.same (Y.split at_vector (record { no_eta = refl; inductive = refl })
    (Y.refuted nil_refuted (Y.goes cons_solved cons_realises (Y.leaf (nat_var 1 8 refl)) Y.no_con))))
