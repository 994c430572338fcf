-- A call of addition that fits, and what its clause says of it.
use Rattle.std.specs.Prelude.{◌≡◌, ◌≢◌, ℕ, List, [], ◌∷◌, map, refl}
use Rattle.std.proofs.Common.{ap, ap₂, sym, subst as transport, arith}
use Rattle.core_rules.specs.declared.Flag.TheVariants.{Explicit}
use Rattle.core_rules.specs.Term.{Term, Var, End, nameless}
use Rattle.core_rules.specs.Substitution.{under}
use Rattle.core_rules.specs.Elimination.{Elim, Arg}
use Rattle.core_rules.specs.Run.{spread, kept}
use Rattle.core_rules.specs.Conversion.{Conv}
use Rattle.core_rules.specs.Heads as H
use Rattle.core_rules.specs.Examples.{suc_con}
use Rattle.core_rules.specs.Addition.{suc_term, plus_term}
use Rattle.match_rules.specs.AdditionClauses.{zero_clause, suc_clause, one_number, plus_branches, plus_covered, addition_by_clauses}
use Rattle.match_rules.specs.Matching as M
use Rattle.match_rules.specs.Matching.{clause_of, HasHead, FirstMatch, Fits, FitsBranch}
use Rattle.match_rules.proofs.Cover.Values.{under-var}
use Rattle.match_rules.proofs.Cover.Standing.{one_head}
use Rattle.match_rules.proofs.Cover.First.{clause_holds}
use Rattle.match_rules.proofs.Cover.Addition.{derivation, is_covered}
use Rattle.core_rules.proofs.Trees.Scoped.{derivable-in_scope}
use Rattle.core_rules.proofs.Trees.Regular.{derivable-typed}

module _ (t u : Term) where
  head : HasHead addition_by_clauses (suc_term t) 1 (Arg Explicit t ∷ [])
  head = record { params = End; steps = 0; heads = H.argument (H.form refl) }

  forced : t ∷ [] ≡ map (under (kept one_number (spread 0 (t ∷ []) (suc_term t ∷ [])))) one_number.values
  forced = ap (λ t. t ∷ []) (sym (under-var (t ∷ []) 0))

  enters : (k : ℕ) (ds : List Elim) → HasHead addition_by_clauses (suc_term t) k ds → FitsBranch addition_by_clauses plus_branches 0 k ds (suc_term t ∷ []) (Arg Explicit u ∷ [])
  enters k ds h =
      let p = one_head addition_by_clauses head h in
      transport (λ k. FitsBranch addition_by_clauses plus_branches 0 k ds (suc_term t ∷ []) (Arg Explicit u ∷ [])) p.0
      (transport (λ ds. FitsBranch addition_by_clauses plus_branches 0 1 ds (suc_term t ∷ []) (Arg Explicit u ∷ [])) p.1
      (M.goes suc_con (t ∷ []) one_number _ refl refl refl refl (ap (map nameless) forced) (M.intro M.at_leaf)))

  fits : Fits addition_by_clauses plus_covered [] (Arg Explicit (suc_term t) ∷ Arg Explicit u ∷ [])
  fits = M.intro (M.split enters)

  not_zero : ◌≢◌ {A = ℕ} 1 0
  not_zero e = absurd (omega (arith, e))

  matches : FirstMatch addition_by_clauses (map (clause_of addition_by_clauses) (zero_clause ∷ suc_clause ∷ [])) 1 (Arg Explicit (suc_term t) ∷ Arg Explicit u ∷ []) ((1, t) ∷ (0, u) ∷ []) []
  matches = M.next (M.here (M.other head not_zero)) (M.first (M.arg (M.of_con head (M.arg M.any M.end)) (M.arg M.any M.end)))

  pub plus_of_successor : Conv addition_by_clauses (plus_term (suc_term t) u) (suc_term (plus_term t u))
  plus_of_successor =
      let q : suc_term (plus_term (under (u ∷ t ∷ []) (Var 1)) (under (u ∷ t ∷ []) (Var 0))) ≡ suc_term (plus_term t u) = ap₂ (λ a b. suc_term (plus_term a b)) (under-var (u ∷ t ∷ []) 1) (under-var (u ∷ t ∷ []) 0) in
      transport (λ w. Conv addition_by_clauses (plus_term (suc_term t) u) w) q
      (clause_holds addition_by_clauses (derivable-in_scope addition_by_clauses derivation) (derivable-typed addition_by_clauses derivation) 0 is_covered 1
      3 _ (zero_clause ∷ suc_clause ∷ []) plus_covered (clause_of addition_by_clauses suc_clause) (suc_term (plus_term (Var 1) (Var 0))) (Arg Explicit (suc_term t) ∷ Arg Explicit u ∷ []) [] ((1, t) ∷ (0, u) ∷ []) refl refl refl fits matches)
