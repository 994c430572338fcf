-- Pairs turned: the tree follows the clause, and any pair fits.
use Rattle.std.specs.Prelude.{◌≡◌, ℕ, List, [], ◌∷◌, ◌++◌, take, slice_get, Some, refl, zero, suc}
use Rattle.std.specs.List.{AllByRecursion}
use Rattle.std.proofs.Common.{subst as transport, arith}
use Rattle.core_rules.specs.declared.Flag.TheVariants.{Explicit}
use Rattle.core_rules.specs.Term.{Term, Var, Proj}
use Rattle.core_rules.specs.Substitution.{under}
use Rattle.core_rules.specs.Signature.{CoreClause, Tree, Family, Open, Function}
use Rattle.core_rules.specs.Elimination.{Elim, Arg}
use Rattle.core_rules.specs.Conversion.{Conv, IsEtaCon}
use Rattle.core_rules.specs.InScope.{ClauseInScope, ClausesInScope, any_meta}
use Rattle.core_rules.specs.Derivable.{Derivable}
use Rattle.core_rules.specs.Examples.{nat, vec, pair, pair_con, pair_of, families}
use Rattle.core_rules.specs.TreeExamples.{swap_type, swap_tree, swap_term}
use Rattle.match_rules.specs.PairClauses.{swap_clause, swap_by_clauses}
use Rattle.match_rules.specs.Matching as M
use Rattle.match_rules.specs.Matching.{Clause, clause_of, FirstMatch, Fits}
use Rattle.match_rules.specs.Covering as V
use Rattle.match_rules.specs.Covering.{Covers}
use Rattle.match_rules.specs.Laws.{IsCovered}
use Rattle.core_rules.proofs.Derivations.{families_derivable}
use Rattle.core_rules.proofs.Trees.Swap.{swaps_derivable}
use Rattle.core_rules.proofs.Trees.Scoped.{derivable-in_scope}
use Rattle.core_rules.proofs.Trees.Regular.{derivable-typed}
use Rattle.match_rules.proofs.Cover.Values.{under-var}
use Rattle.match_rules.proofs.Cover.First.{clause_holds}
use Rattle.match_rules.proofs.Cover.WithClauses.{with_clauses, covered_as}

abbrev by_clause : Clause
by_clause = clause_of swap_by_clauses swap_clause

abbrev pair_has_eta : IsEtaCon swap_by_clauses 4 2
pair_has_eta = record { decl = pair; con = pair_con; is_decl = refl; is_con = refl; place = refl; eta = refl }

-- at the pair, its constructor stands for it, with new variables
covered : Covers swap_by_clauses (by_clause ∷ []) 0 [] swap_tree
covered = V.next Explicit (V.argument V.end V.any) (V.next Explicit (V.argument (V.arg V.any V.end) V.any) (V.next Explicit (V.argument (V.arg V.any (V.arg V.any V.end)) V.of_record)
    (V.record_splits (Var 1 ∷ Var 0 ∷ []) pair_has_eta (V.at_record (V.arg V.any (V.arg V.any (V.arg V.at_record V.end))))
    (V.ends {q = by_clause} {σ = (3, Var 3) ∷ (2, Var 2) ∷ (1, Var 1) ∷ (0, Var 0) ∷ []} {t = pair_of (Var 2) (Var 3) (Var 0) (Var 1)}
    (V.ends (V.arg V.any (V.arg V.any (V.arg (V.of_record {us = Var 1 ∷ Var 0 ∷ []} (record { con = 4; params = _; is_con = pair_has_eta; as_many = refl; is = refl }) (V.arg V.any (V.arg V.any V.end))) V.end)))) refl))))

pub is_covered : IsCovered swap_by_clauses 0
is_covered = covered_as swap_by_clauses 0 17 swap_type (swap_clause ∷ []) swap_tree refl covered

pub derivation : Derivable swap_by_clauses
derivation = with_clauses families 17 swap_type [] (swap_clause ∷ []) swap_tree families_derivable (swaps_derivable.good 3 _ refl)
    (record { left = record { context = (tt, (tt, (tt, (tt, tt)))); pats = (tt, (tt, ((tt, (tt, tt)), tt))); ty = ((tt, tt), tt); named = tt; dots = tt }; right = (((tt, (tt, tt)), tt), tt) }, tt)

clause_in_scope : ClauseInScope (Family nat ∷ Family vec ∷ Family pair ∷ Open 17 swap_type ∷ []) any_meta swap_clause
clause_in_scope = record {
  left = record {
    context = (tt, (tt, (omega arith, (omega arith, tt))));
    pats = (omega arith, (omega arith, ((omega arith, (omega arith, (omega arith, tt))), tt)));
    ty = ((omega arith, omega arith), omega arith);
    named = tt;
    dots = tt;
  };
  right = (((refl, (omega arith, (omega arith, tt))), omega arith), omega arith);
}

by_entry : (i x : ℕ) (a : Term) (qs : List (CoreClause Term)) (T : Tree Term) → slice_get swap_by_clauses i ≡ Some (Function x a qs T)
    → AllByRecursion (ClauseInScope (take i swap_by_clauses ++ Open x a ∷ []) any_meta) qs
by_entry zero x a qs T e = absurd cc
by_entry (suc zero) x a qs T e = absurd cc
by_entry (suc (suc zero)) x a qs T e = absurd cc
by_entry (suc (suc (suc zero))) x a qs T e =
    let p : (x ≡ 17) × (a ≡ swap_type) × (qs ≡ swap_clause ∷ []) = (cc e, cc e, cc e) in
    rw (p.0, p.1, p.2) (clause_in_scope, tt)
by_entry (suc (suc (suc (suc i)))) x a qs T e = absurd cc

pub in_scope : ClausesInScope swap_by_clauses any_meta
in_scope = by_entry

module _ (a b p : Term) where
  abbrev call : List Elim
  call = Arg Explicit a ∷ Arg Explicit b ∷ Arg Explicit p ∷ []

  fits : Fits swap_by_clauses swap_tree [] call
  fits = M.intro (M.intro (M.intro (M.record_split M.at_leaf)))

  matches : FirstMatch swap_by_clauses (by_clause ∷ []) 0 call ((3, a) ∷ (2, b) ∷ (1, Proj 0 p) ∷ (0, Proj 1 p) ∷ []) []
  matches = M.first (M.arg M.any (M.arg M.any (M.arg (M.of_record (M.arg M.any (M.arg M.any M.end))) M.end)))

  abbrev found : List Term
  found = Proj 1 p ∷ Proj 0 p ∷ b ∷ a ∷ []

  pub swap_of_any : Conv swap_by_clauses (swap_term 0 a b p) (pair_of b a (Proj 1 p) (Proj 0 p))
  swap_of_any =
      let q : pair_of (under found (Var 2)) (under found (Var 3)) (under found (Var 0)) (under found (Var 1)) ≡ pair_of b a (Proj 1 p) (Proj 0 p) = rw (under-var found 0, under-var found 1, under-var found 2, under-var found 3) refl in
      transport (λ w. Conv swap_by_clauses (swap_term 0 a b p) w) q
      (clause_holds swap_by_clauses (derivable-in_scope swap_by_clauses derivation) (derivable-typed swap_by_clauses derivation) 0 is_covered 0
      17 _ (swap_clause ∷ []) swap_tree by_clause (pair_of (Var 2) (Var 3) (Var 0) (Var 1)) call [] ((3, a) ∷ (2, b) ∷ (1, Proj 0 p) ∷ (0, Proj 1 p) ∷ []) refl refl refl fits matches)
