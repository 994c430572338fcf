-- Addition, the first item of a vector, and append: derivable with their trees, and what they unfold to.
use Rattle.std.specs.Prelude.{◌≡◌, ℕ, true, [], ◌∷◌, refl}
use Rattle.std.proofs.Common.{sym, subst as transport, arith}
use Rattle.std.proofs.lemmas.Bool.{eqb-true}
use Rattle.core_rules.specs.declared.Flag.TheVariants.{Explicit, Implicit}
use Rattle.core_rules.specs.Term.{Term, Var, Sort, Pi, App, Def, Fam, Con, End, And, occurs}
use Rattle.core_rules.specs.Substitution.{value_at}
use Rattle.core_rules.specs.Signature.{Signature, Context, Family, Open, Function, onto}
use Rattle.core_rules.specs.Elimination.{Arg}
use Rattle.core_rules.specs.Run as R
use Rattle.core_rules.specs.Conversion as C
use Rattle.core_rules.specs.Conversion.{Conv}
use Rattle.core_rules.specs.Typing as T
use Rattle.core_rules.specs.Typing.{Typing, WellFormed, HasSort, entry}
use Rattle.core_rules.specs.Unification as U
use Rattle.core_rules.specs.Unification.{eq, Solution, Depends, Solves, Realises, whole_types}
use Rattle.core_rules.specs.TypedTree as Y
use Rattle.core_rules.specs.TypedTree.{IsAt, TypedTree}
use Rattle.core_rules.specs.Derivable as D
use Rattle.core_rules.specs.Derivable.{Derivable, Good}
use Rattle.core_rules.specs.Examples.{nat, vec, zero_con, suc_con, cons_con}
use Rattle.core_rules.specs.Addition.{nat_type, zero_term, suc_term, plus_term, plus_tree}
use Rattle.core_rules.specs.VectorHead.{first_type, first_tree}
use Rattle.core_rules.specs.TreeExamples.{PlusUnfolds, cons_term, nil_term, vector_of, firsts, FirstUnfolds, append_type, append_term, append_nil, append_cons, append_tree, appending, AppendUnfolds}
use Rattle.core_rules.proofs.Signature.Growth.{derivable-extended}
use Rattle.core_rules.proofs.Typing.NoMeta.{good-no_meta}
use Rattle.core_rules.proofs.Derivations.{derivable-empty, good_nat, good_vec, no_metas}
use Rattle.core_rules.proofs.Trees.Addition.{plus_type, plus_typed, plus_no_meta}
use Rattle.core_rules.proofs.Trees.Vector.{first_typed}
use Rattle.core_rules.proofs.Trees.Keeping.{keeps, unshifted}

pub plus_unfolds : PlusUnfolds
plus_unfolds t u = (
  C.then (C.unfolds 0 (Arg Explicit zero_term ∷ Arg Explicit u ∷ []) refl (R.intro (R.intro (R.split refl refl R.leaf)))) (unshifted u),
  C.then (C.unfolds 0 (Arg Explicit (suc_term t) ∷ Arg Explicit u ∷ []) refl (R.intro (R.intro (R.split refl refl R.leaf)))) (C.app C.same (C.app (C.app C.same (unshifted t)) (unshifted u))),
)

numbers : Derivable (Family nat ∷ Family vec ∷ [])
numbers = derivable-extended (Family nat ∷ []) (Family vec) (derivable-extended [] (Family nat) derivable-empty good_nat no_metas.0) good_vec no_metas.1.0

-- vectors of a type and a number, over any signature that begins so
module _ (more : Signature Term) where
  abbrev known : Signature Term
  known = Family nat ∷ Family vec ∷ more

  nat_typed : (c : Context Term) → Typing known c nat_type (Sort 0)
  nat_typed c = T.fam refl

  vec_typed : (c : Context Term) (a n : Term) → Typing known c a (Sort 0) → Typing known c n nat_type → Typing known c (vector_of a n) (Sort 0)
  vec_typed c a n h k = T.app {v = Sort 0} (T.app {v = Pi Explicit 11 (Fam 0) (Sort 0)} (T.fam refl) h) k

  zero_typed : (c : Context Term) → Typing known c zero_term nat_type
  zero_typed c = T.con (record { fam = 0; at = 0; decl = nat; con = zero_con; place = refl; is_decl = refl; is_con = refl }) T.none

  suc_typed : (c : Context Term) (n : Term) → Typing known c n nat_type → Typing known c (suc_term n) nat_type
  suc_typed c n h = T.app {v = nat_type} (T.con (record { fam = 0; at = 1; decl = nat; con = suc_con; place = refl; is_decl = refl; is_con = refl }) T.none) h

good_first : Good (Family nat ∷ Family vec ∷ []) (Function 3 first_type [] first_tree)
good_first = D.function (record {
  level = 0;
  holds = T.pi {m = 0} {n = 0} (nat_typed [] []) (T.pi {m = 0} {n = 0} (vec_typed [] (entry Explicit 0 nat_type ∷ []) nat_type (suc_term (Var 0)) (nat_typed [] _) (suc_typed [] _ (Var 0) (T.var refl))) (nat_typed [] _));
}) first_typed

pub first_derivable : Derivable firsts
first_derivable = derivable-extended (Family nat ∷ Family vec ∷ []) (Function 3 first_type [] first_tree) numbers good_first (good-no_meta _ _ good_first tt)

pub first_unfolds : FirstUnfolds
first_unfolds ps n m x xs = C.then (C.unfolds 0 (Arg Explicit n ∷ Arg Explicit (cons_term ps m x xs) ∷ []) refl (R.intro (R.intro (R.split refl refl R.leaf)))) (unshifted x)

-- append
abbrev rest : Signature Term
rest = Function 3 plus_type [] plus_tree ∷ Open 4 append_type ∷ []

abbrev appends : Signature Term
appends = known rest

plus_at : (c : Context Term) (t u : Term) → Typing appends c t nat_type → Typing appends c u nat_type → Typing appends c (plus_term t u) nat_type
plus_at c t u h k = T.app {v = nat_type} (T.app {v = Pi Explicit 0 nat_type nat_type} (T.def refl) h) k

abbrev under_type : Context Term
under_type = entry Implicit 0 (Sort 0) ∷ []

abbrev under_m : Context Term
under_m = entry Implicit 0 nat_type ∷ under_type

abbrev under_n : Context Term
under_n = entry Implicit 0 nat_type ∷ under_m

abbrev under_xs : Context Term
under_xs = entry Explicit 0 (vector_of (Var 2) (Var 1)) ∷ under_n

abbrev given : Context Term
given = entry Explicit 0 (vector_of (Var 3) (Var 1)) ∷ under_xs

append_sorted : (g : Signature Term) → ((c : Context Term) → Typing g c nat_type (Sort 0)) → ((c : Context Term) (a n : Term) → Typing g c a (Sort 0) → Typing g c n nat_type → Typing g c (vector_of a n) (Sort 0))
    → ((c : Context Term) (t u : Term) → Typing g c t nat_type → Typing g c u nat_type → Typing g c (plus_term t u) nat_type) → HasSort g [] append_type
append_sorted g n v p = record {
  level = 1;
  holds = T.pi {m = 1} {n = 0} T.sort (T.pi {m = 0} {n = 0} (n under_type) (T.pi {m = 0} {n = 0} (n under_m) (T.pi {m = 0} {n = 0} (v under_n (Var 2) (Var 1) (T.var refl) (T.var refl))
      (T.pi {m = 0} {n = 0} (v under_xs (Var 3) (Var 1) (T.var refl) (T.var refl)) (v given (Var 4) (plus_term (Var 3) (Var 2)) (T.var refl) (p given (Var 3) (Var 2) (T.var refl) (T.var refl)))))));
}

abbrev at_xs : IsAt appends given 1 1
at_xs = record { entry = entry Explicit 0 (vector_of (Var 2) (Var 1)); decl = vec; params = Var 2 ∷ []; indices = Var 1 ∷ []; stands = refl; is_decl = refl; as_many = refl; as_many_indices = refl; is = C.same }

-- nil: ys, n, m and A, where m is zero
abbrev after_nil : Context Term
after_nil = entry Explicit 0 (vector_of (Var 2) (Var 0)) ∷ entry Implicit 0 nat_type ∷ entry Implicit 0 nat_type ∷ entry Implicit 0 (Sort 0) ∷ []

abbrev m_is_zero : Solution
m_is_zero = record { var = 2; value = zero_term }

nil_solved : Solves appends after_nil (eq zero_term (Var 2) ∷ []) (m_is_zero ∷ [])
nil_solved = record { types = _; steps = U.go (U.solve_right {x = 2} {t = zero_term} [] [] (record { absent = refl; free = λ y e d. absurd cc })) U.stop }

abbrev nil_left : Context Term
nil_left = onto append_nil.context []

nil_formed : WellFormed appends nil_left
nil_formed = T.extended (T.extended (T.extended T.empty (record { level = 1; holds = T.sort })) (record { level = 0; holds = nat_typed rest under_type }))
    (record { level = 0; holds = vec_typed rest under_m (Var 1) (Var 0) (T.var refl) (T.var refl) })

nil_realises : Realises appends after_nil (m_is_zero ∷ []) nil_left append_nil.values append_nil.keep
nil_realises = record {
  joins = record { long = refl; scoped = (omega arith, (omega arith, (tt, (omega arith, tt)))); values = (refl, tt); as_many = refl; kept = keeps append_nil.values append_nil.keep (refl, (refl, (refl, tt))) };
  formed = nil_formed;
  fits = T.more (T.more (T.more (T.more T.none (T.var {e = entry Implicit 0 (Sort 0)} refl)) (zero_typed rest nil_left)) (T.var {e = entry Implicit 0 nat_type} refl)) (T.var {e = entry Explicit 0 (vector_of (Var 1) (Var 0))} refl);
}

zero_plus : Conv appends (plus_term zero_term (Var 1)) (Var 1)
zero_plus = C.unfolds 0 (Arg Explicit zero_term ∷ Arg Explicit (Var 1) ∷ []) refl (R.intro (R.intro (R.split refl refl R.leaf)))

nil_typed : Typing appends nil_left (Var 0) (vector_of (Var 2) (plus_term zero_term (Var 1)))
nil_typed = T.convert (T.var {e = entry Explicit 0 (vector_of (Var 1) (Var 0))} refl) (C.app C.same (C.back zero_plus))

-- cons: ys, xs, x, k, n, m and A, where m is suc k
abbrev after_cons : Context Term
after_cons = entry Explicit 0 (vector_of (Var 5) (Var 3)) ∷ entry Explicit 9 (vector_of (Var 4) (Var 1)) ∷ entry Explicit 8 (Var 3) ∷ entry Implicit 7 nat_type ∷ entry Implicit 0 nat_type ∷ entry Implicit 0 nat_type ∷ entry Implicit 0 (Sort 0) ∷ []

abbrev m_is_suc : Solution
m_is_suc = record { var = 5; value = suc_term (Var 3) }

nat_alone : (x : ℕ) → Depends (whole_types 0 after_cons) nat_type x → ⊥
nat_alone x (U.stands e) = absurd cc
nat_alone x (U.through y e d) = absurd cc

k_free : (y : ℕ) → occurs y (suc_term (Var 3)) ≡ true → Depends (whole_types 0 after_cons) (value_at (whole_types 0 after_cons) y) 5 → ⊥
k_free y e d = let p : 3 ≡ y = eqb-true 3 y e in nat_alone 5 (transport (λ y. Depends (whole_types 0 after_cons) (value_at (whole_types 0 after_cons) y) 5) (sym p) d)

cons_solved : Solves appends after_cons (eq (suc_term (Var 3)) (Var 5) ∷ []) (m_is_suc ∷ [])
cons_solved = record { types = _; steps = U.go (U.solve_right {x = 5} {t = suc_term (Var 3)} [] [] (record { absent = refl; free = k_free })) U.stop }

abbrev left_n : Context Term
left_n = entry Implicit 0 nat_type ∷ under_type

abbrev left_k : Context Term
left_k = entry Implicit 7 nat_type ∷ left_n

abbrev left_x : Context Term
left_x = entry Explicit 8 (Var 2) ∷ left_k

abbrev left_xs : Context Term
left_xs = entry Explicit 9 (vector_of (Var 3) (Var 1)) ∷ left_x

abbrev cons_left : Context Term
cons_left = onto append_cons.context []

cons_formed : WellFormed appends cons_left
cons_formed = T.extended (T.extended (T.extended (T.extended (T.extended (T.extended T.empty (record { level = 1; holds = T.sort })) (record { level = 0; holds = nat_typed rest under_type }))
    (record { level = 0; holds = nat_typed rest left_n })) (record { level = 0; holds = T.var {e = entry Implicit 0 (Sort 0)} refl }))
    (record { level = 0; holds = vec_typed rest left_x (Var 3) (Var 1) (T.var refl) (T.var refl) })) (record { level = 0; holds = vec_typed rest left_xs (Var 4) (Var 3) (T.var refl) (T.var refl) })

cons_realises : Realises appends after_cons (m_is_suc ∷ []) cons_left append_cons.values append_cons.keep
cons_realises = record {
  joins = record {
    long = refl;
    scoped = (omega arith, (omega arith, (omega arith, (omega arith, (omega arith, ((tt, omega arith), (omega arith, tt)))))));
    values = (refl, tt);
    as_many = refl;
    kept = keeps append_cons.values append_cons.keep (refl, (refl, (refl, (refl, (refl, (refl, tt))))));
  };
  formed = cons_formed;
  fits = T.more (T.more (T.more (T.more (T.more (T.more (T.more T.none (T.var {e = entry Implicit 0 (Sort 0)} refl)) (suc_typed rest cons_left (Var 3) (T.var {e = entry Implicit 7 nat_type} refl)))
      (T.var {e = entry Implicit 0 nat_type} refl)) (T.var {e = entry Implicit 7 nat_type} refl)) (T.var {e = entry Explicit 8 (Var 2)} refl)) (T.var {e = entry Explicit 9 (vector_of (Var 3) (Var 1))} refl))
      (T.var {e = entry Explicit 0 (vector_of (Var 4) (Var 3))} refl);
}

suc_plus : Conv appends (plus_term (suc_term (Var 3)) (Var 4)) (suc_term (plus_term (Var 3) (Var 4)))
suc_plus = C.unfolds 0 (Arg Explicit (suc_term (Var 3)) ∷ Arg Explicit (Var 4) ∷ []) refl (R.intro (R.intro (R.split refl refl R.leaf)))

k_plus_n : Typing appends cons_left (plus_term (Var 3) (Var 4)) nat_type
k_plus_n = plus_at cons_left (Var 3) (Var 4) (T.var {e = entry Implicit 7 nat_type} refl) (T.var {e = entry Implicit 0 nat_type} refl)

-- append A k n xs ys
again_typed : Typing appends cons_left (append_term (Var 5) (Var 3) (Var 4) (Var 1) (Var 0)) (vector_of (Var 5) (plus_term (Var 3) (Var 4)))
again_typed =
    let a : Typing appends cons_left (Var 5) (Sort 0) = T.var refl in
    let m : Typing appends cons_left (Var 3) nat_type = T.var refl in
    let n : Typing appends cons_left (Var 4) nat_type = T.var refl in
    let xs : Typing appends cons_left (Var 1) (vector_of (Var 5) (Var 3)) = T.var refl in
    let ys : Typing appends cons_left (Var 0) (vector_of (Var 5) (Var 4)) = T.var refl in
    let f : Typing appends cons_left (Def 1) append_type = T.def refl in
    let f1 : Typing appends cons_left (App Implicit (Def 1) (Var 5)) (Pi Implicit 0 nat_type (Pi Implicit 0 nat_type (Pi Explicit 0 (vector_of (Var 7) (Var 1)) (Pi Explicit 0 (vector_of (Var 8) (Var 1)) (vector_of (Var 9) (plus_term (Var 3) (Var 2))))))) = T.app f a in
    let f2 : Typing appends cons_left (App Implicit (App Implicit (Def 1) (Var 5)) (Var 3)) (Pi Implicit 0 nat_type (Pi Explicit 0 (vector_of (Var 6) (Var 4)) (Pi Explicit 0 (vector_of (Var 7) (Var 1)) (vector_of (Var 8) (plus_term (Var 6) (Var 2)))))) = T.app f1 m in
    let f3 : Typing appends cons_left (App Implicit (App Implicit (App Implicit (Def 1) (Var 5)) (Var 3)) (Var 4)) (Pi Explicit 0 (vector_of (Var 5) (Var 3)) (Pi Explicit 0 (vector_of (Var 6) (Var 5)) (vector_of (Var 7) (plus_term (Var 5) (Var 6))))) = T.app f2 n in
    let f4 : Typing appends cons_left (App Explicit (App Implicit (App Implicit (App Implicit (Def 1) (Var 5)) (Var 3)) (Var 4)) (Var 1)) (Pi Explicit 0 (vector_of (Var 5) (Var 4)) (vector_of (Var 6) (plus_term (Var 4) (Var 5)))) = T.app f3 xs in
    T.app f4 ys

cons_typed : Typing appends cons_left (cons_term (And (Var 5) End) (plus_term (Var 3) (Var 4)) (Var 2) (append_term (Var 5) (Var 3) (Var 4) (Var 1) (Var 0))) (vector_of (Var 5) (plus_term (suc_term (Var 3)) (Var 4)))
cons_typed =
    let a : Typing appends cons_left (Var 5) (Sort 0) = T.var refl in
    let x : Typing appends cons_left (Var 2) (Var 5) = T.var refl in
    let k : Typing appends cons_left (Con 3 (And (Var 5) End)) (Pi Implicit 7 nat_type (Pi Explicit 8 (Var 6) (Pi Explicit 9 (vector_of (Var 7) (Var 1)) (vector_of (Var 8) (suc_term (Var 2)))))) =
    T.con (record { fam = 1; at = 1; decl = vec; con = cons_con; place = refl; is_decl = refl; is_con = refl }) (T.more T.none a) in
    let k1 : Typing appends cons_left (App Implicit (Con 3 (And (Var 5) End)) (plus_term (Var 3) (Var 4))) (Pi Explicit 8 (Var 5) (Pi Explicit 9 (vector_of (Var 6) (plus_term (Var 4) (Var 5))) (vector_of (Var 7) (suc_term (plus_term (Var 5) (Var 6)))))) = T.app k k_plus_n in
    let k2 : Typing appends cons_left (App Explicit (App Implicit (Con 3 (And (Var 5) End)) (plus_term (Var 3) (Var 4))) (Var 2)) (Pi Explicit 9 (vector_of (Var 5) (plus_term (Var 3) (Var 4))) (vector_of (Var 6) (suc_term (plus_term (Var 4) (Var 5))))) = T.app k1 x in
    T.convert (T.app k2 again_typed) (C.app C.same (C.back suc_plus))

append_typed : TypedTree appends [] append_tree append_type (Def 1)
append_typed = Y.intro C.same (Y.intro C.same (Y.intro C.same (Y.intro C.same (Y.intro C.same (Y.split at_xs (record { no_eta = refl; inductive = refl })
    (Y.goes nil_solved nil_realises (Y.leaf nil_typed) (Y.goes cons_solved cons_realises (Y.leaf cons_typed) Y.no_con)))))))

abbrev with_plus : Signature Term
with_plus = Family nat ∷ Family vec ∷ Function 3 plus_type [] plus_tree ∷ []

plus_added : Derivable with_plus
plus_added =
    let typed : Typing (Family nat ∷ Family vec ∷ []) [] plus_type (Sort 0) = T.pi {m = 0} {n = 0} (T.fam refl) (T.pi {m = 0} {n = 0} (T.fam refl) (T.fam refl)) in
    derivable-extended (Family nat ∷ Family vec ∷ []) (Function 3 plus_type [] plus_tree) numbers (D.function (record { level = 0; holds = typed }) (plus_typed (Family vec ∷ []) refl)) plus_no_meta

plus_before : (c : Context Term) (t u : Term) → Typing with_plus c t nat_type → Typing with_plus c u nat_type → Typing with_plus c (plus_term t u) nat_type
plus_before c t u h k = T.app {v = nat_type} (T.app {v = Pi Explicit 0 nat_type nat_type} (T.def refl) h) k

good_append : Good with_plus (Function 4 append_type [] append_tree)
good_append = D.function (append_sorted with_plus (nat_typed (Function 3 plus_type [] plus_tree ∷ [])) (vec_typed (Function 3 plus_type [] plus_tree ∷ [])) plus_before) append_typed

pub append_derivable : Derivable appending
append_derivable = derivable-extended with_plus (Function 4 append_type [] append_tree) plus_added good_append (good-no_meta _ _ good_append tt)

pub append_unfolds : AppendUnfolds
append_unfolds ps a m n k x xs ys = (
  C.then (C.unfolds 1 (Arg Implicit a ∷ Arg Implicit m ∷ Arg Implicit n ∷ Arg Explicit (nil_term ps) ∷ Arg Explicit ys ∷ []) refl (R.intro (R.intro (R.intro (R.intro (R.intro (R.split refl refl R.leaf))))))) (unshifted ys),
  C.then (C.unfolds 1 (Arg Implicit a ∷ Arg Implicit m ∷ Arg Implicit n ∷ Arg Explicit (cons_term ps k x xs) ∷ Arg Explicit ys ∷ []) refl (R.intro (R.intro (R.intro (R.intro (R.intro (R.split refl refl R.leaf)))))))
      (C.app (C.app (C.app C.con (C.app (C.app C.same (unshifted k)) (unshifted n))) (unshifted x))
      (C.app (C.app (C.app (C.app (C.app C.same (unshifted a)) (unshifted k)) (unshifted n)) (unshifted xs)) (unshifted ys))),
)
