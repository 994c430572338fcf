-- A split in the middle of a context, whose branches solve a variable and keep the others: typed, and what it unfolds to.
use Rattle.std.specs.Prelude.{◌≡◌, ℕ, true, [], ◌∷◌, refl}
use Rattle.std.proofs.Common.{sym, subst as transport, arith}
use Rattle.std.proofs.lemmas.Bool.{eqb-true}
use Rattle.core_rules.specs.declared.Flag.TheVariants.{Explicit, Implicit}
use Rattle.core_rules.specs.Term.{Term, Var, Sort, Pi, App, Con, End, occurs}
use Rattle.core_rules.specs.Substitution.{value_at}
use Rattle.core_rules.specs.Signature.{Signature, Context, Family, Open, onto}
use Rattle.core_rules.specs.Elimination.{Arg}
use Rattle.core_rules.specs.Run as R
use Rattle.core_rules.specs.Conversion as C
use Rattle.core_rules.specs.Typing as T
use Rattle.core_rules.specs.Typing.{Typing, entry}
use Rattle.core_rules.specs.Unification as U
use Rattle.core_rules.specs.Unification.{eq, Solution, Depends, Solves, Realises, whole_types}
use Rattle.core_rules.specs.TypedTree as Y
use Rattle.core_rules.specs.TypedTree.{IsAt}
use Rattle.core_rules.specs.Examples.{nat}
use Rattle.core_rules.specs.Addition.{nat_type, suc_term}
use Rattle.core_rules.specs.TreeExamples.{fin_at, fzero_con, fsuc_con, fin, fzero_term, fsuc_term, again_type, again_zero, again_suc, AgainTyped, AgainUnfolds}
use Rattle.core_rules.proofs.Trees.Keeping.{keeps, unshifted}

abbrev known : Signature Term
known = Family nat ∷ Family fin ∷ Open 9 again_type ∷ []

abbrev under_n : Context Term
under_n = entry Explicit 0 nat_type ∷ []

abbrev given : Context Term
given = entry Explicit 0 nat_type ∷ entry Explicit 0 (fin_at (suc_term (Var 0))) ∷ under_n

abbrev at_i : IsAt known given 1 1
at_i = record { entry = entry Explicit 0 (fin_at (suc_term (Var 0))); decl = fin; params = []; indices = suc_term (Var 0) ∷ []; stands = refl; is_decl = refl; as_many = refl; as_many_indices = refl; is = C.same }

fin_typed : (c : Context Term) (n : Term) → Typing known c n nat_type → Typing known c (fin_at n) (Sort 0)
fin_typed c n h = T.app {v = Sort 0} (T.fam refl) h

-- fzero {m}: k, m and n, where suc m is suc n
abbrev after_zero : Context Term
after_zero = entry Explicit 0 nat_type ∷ entry Implicit 6 nat_type ∷ under_n

abbrev m_is_n : Solution
m_is_n = record { var = 1; value = Var 2 }

nat_alone : (c : Context Term) (x : ℕ) → Depends (whole_types 0 c) nat_type x → ⊥
nat_alone c x (U.stands e) = absurd cc
nat_alone c x (U.through y e d) = absurd cc

n_free : (y : ℕ) → occurs y (Var 2) ≡ true → Depends (whole_types 0 after_zero) (value_at (whole_types 0 after_zero) y) 1 → ⊥
n_free y e d = let p : 2 ≡ y = eqb-true 2 y e in nat_alone after_zero 1 (transport (λ y. Depends (whole_types 0 after_zero) (value_at (whole_types 0 after_zero) y) 1) (sym p) d)

zero_solved : Solves known after_zero (eq (suc_term (Var 1)) (suc_term (Var 2)) ∷ []) (m_is_n ∷ [])
zero_solved = record {
  types = _;
  steps = U.go (U.inject {qs = eq (Var 1) (Var 2) ∷ []} (suc_term (Var 1)) (suc_term (Var 2)) [] [] refl refl (U.pair U.no_pair))
      (U.go (U.solve_left {x = 1} {t = Var 2} [] [] (record { absent = refl; free = n_free })) U.stop);
}

abbrev zero_left : Context Term
zero_left = onto again_zero.context []

zero_realises : Realises known after_zero (m_is_n ∷ []) zero_left again_zero.values again_zero.keep
zero_realises = record {
  joins = record { long = refl; scoped = (omega arith, (omega arith, (omega arith, tt))); values = (refl, tt); as_many = refl; kept = keeps again_zero.values again_zero.keep (refl, (refl, tt)) };
  formed = T.extended (T.extended T.empty (record { level = 0; holds = T.fam refl })) (record { level = 0; holds = T.fam refl });
  fits = T.more (T.more (T.more T.none (T.var {e = entry Explicit 0 nat_type} refl)) (T.var {e = entry Explicit 0 nat_type} refl)) (T.var {e = entry Explicit 0 nat_type} refl);
}

zero_typed : Typing known zero_left (fzero_term (Var 1)) (fin_at (suc_term (Var 1)))
zero_typed =
    let n : Typing known zero_left (Var 1) nat_type = T.var refl in
    let k : Typing known zero_left (Con 2 End) (Pi Implicit 6 nat_type (fin_at (suc_term (Var 0)))) = T.con (record { fam = 1; at = 0; decl = fin; con = fzero_con; place = refl; is_decl = refl; is_con = refl }) T.none in
    T.app k n

-- fsuc {m} i: k, i, m and n, where suc m is suc n
abbrev after_suc : Context Term
after_suc = entry Explicit 0 nat_type ∷ entry Explicit 8 (fin_at (Var 0)) ∷ entry Implicit 6 nat_type ∷ under_n

abbrev m_is_n_too : Solution
m_is_n_too = record { var = 2; value = Var 3 }

n_free_too : (y : ℕ) → occurs y (Var 3) ≡ true → Depends (whole_types 0 after_suc) (value_at (whole_types 0 after_suc) y) 2 → ⊥
n_free_too y e d = let p : 3 ≡ y = eqb-true 3 y e in nat_alone after_suc 2 (transport (λ y. Depends (whole_types 0 after_suc) (value_at (whole_types 0 after_suc) y) 2) (sym p) d)

suc_solved : Solves known after_suc (eq (suc_term (Var 2)) (suc_term (Var 3)) ∷ []) (m_is_n_too ∷ [])
suc_solved = record {
  types = _;
  steps = U.go (U.inject {qs = eq (Var 2) (Var 3) ∷ []} (suc_term (Var 2)) (suc_term (Var 3)) [] [] refl refl (U.pair U.no_pair))
      (U.go (U.solve_left {x = 2} {t = Var 3} [] [] (record { absent = refl; free = n_free_too })) U.stop);
}

abbrev suc_left : Context Term
suc_left = onto again_suc.context []

suc_realises : Realises known after_suc (m_is_n_too ∷ []) suc_left again_suc.values again_suc.keep
suc_realises = record {
  joins = record {
    long = refl;
    scoped = (omega arith, (omega arith, (omega arith, (omega arith, tt))));
    values = (refl, tt);
    as_many = refl;
    kept = keeps again_suc.values again_suc.keep (refl, (refl, (refl, tt)));
  };
  formed = T.extended (T.extended (T.extended T.empty (record { level = 0; holds = T.fam refl })) (record { level = 0; holds = fin_typed under_n (Var 0) (T.var refl) })) (record { level = 0; holds = T.fam refl });
  fits = T.more (T.more (T.more (T.more T.none (T.var {e = entry Explicit 0 nat_type} refl)) (T.var {e = entry Explicit 0 nat_type} refl)) (T.var {e = entry Explicit 8 (fin_at (Var 0))} refl)) (T.var {e = entry Explicit 0 nat_type} refl);
}

suc_typed : Typing known suc_left (fsuc_term (Var 2) (Var 1)) (fin_at (suc_term (Var 2)))
suc_typed =
    let n : Typing known suc_left (Var 2) nat_type = T.var refl in
    let i : Typing known suc_left (Var 1) (fin_at (Var 2)) = T.var refl in
    let k : Typing known suc_left (Con 3 End) (Pi Implicit 6 nat_type (Pi Explicit 8 (fin_at (Var 0)) (fin_at (suc_term (Var 1))))) = T.con (record { fam = 1; at = 1; decl = fin; con = fsuc_con; place = refl; is_decl = refl; is_con = refl }) T.none in
    let k1 : Typing known suc_left (App Implicit (Con 3 End) (Var 2)) (Pi Explicit 8 (fin_at (Var 2)) (fin_at (suc_term (Var 3)))) = T.app k n in
    T.app k1 i

pub again_typed : AgainTyped
again_typed = Y.intro C.same (Y.intro C.same (Y.intro C.same (Y.split at_i (record { no_eta = refl; inductive = refl })
    (Y.goes zero_solved zero_realises (Y.leaf zero_typed) (Y.goes suc_solved suc_realises (Y.leaf suc_typed) Y.no_con)))))

pub again_unfolds : AgainUnfolds
again_unfolds n m i k = (
  C.then (C.unfolds 0 (Arg Explicit n ∷ Arg Explicit (fzero_term m) ∷ Arg Explicit k ∷ []) refl (R.intro (R.intro (R.intro (R.split refl refl R.leaf))))) (C.app C.same (unshifted n)),
  C.then (C.unfolds 0 (Arg Explicit n ∷ Arg Explicit (fsuc_term m i) ∷ Arg Explicit k ∷ []) refl (R.intro (R.intro (R.intro (R.split refl refl R.leaf))))) (C.app (C.app C.same (unshifted n)) (unshifted i)),
)
