-- The case tree of addition is typed and follows its clauses.
use Rattle.std.specs.Prelude.{◌≡◌, ◌≢◌, ℕ, false, eqb, List, [], ◌∷◌, ◌++◌, length, take, slice_get, Option, Some, None, refl, zero, suc}
use Rattle.std.specs.List.{AllByRecursion}
use Rattle.std.proofs.Common.{subst as transport, arith}
use Rattle.std.proofs.lemmas.Grind.{common_steps}
use Rattle.core_rules.specs.declared.Flag.TheVariants.{Explicit}
use Rattle.core_rules.specs.Term.{Term, Var, Sort, Pi, Def, End}
use Rattle.core_rules.specs.Substitution.{under}
use Rattle.core_rules.specs.Signature.{Signature, Context, CoreClause, Branch, Tree, Leaf, Intro, ConDecl, Family, Open, Function, con_branch, con_decl, onto}
use Rattle.core_rules.specs.Elimination.{Arg}
use Rattle.core_rules.specs.Conversion as C
use Rattle.core_rules.specs.Typing as T
use Rattle.core_rules.specs.Typing.{Typing, entry}
use Rattle.core_rules.specs.InScope.{ClauseInScope, ClausesInScope, any_meta}
use Rattle.core_rules.specs.Heads as H
use Rattle.core_rules.specs.Unification as U
use Rattle.core_rules.specs.Unification.{Realises}
use Rattle.core_rules.specs.TypedTree as Y
use Rattle.core_rules.specs.TypedTree.{IsAt, into, new_con, TypedTree}
use Rattle.core_rules.specs.Derivable as D
use Rattle.core_rules.specs.Derivable.{Derivable}
use Rattle.core_rules.specs.Examples.{nat, zero_con, suc_con}
use Rattle.core_rules.specs.Addition.{nat_type, zero_term, suc_term, plus_term}
use Rattle.match_rules.specs.AdditionClauses.{zero_clause, suc_clause, no_number, one_number, plus_branches, plus_covered, addition_by_clauses}
use Rattle.match_rules.specs.Matching.{Clause, clause_of, HasHead}
use Rattle.match_rules.specs.Covering as V
use Rattle.match_rules.specs.Covering.{elims_map, Covers}
use Rattle.match_rules.specs.Laws.{IsCovered}
use Rattle.core_rules.proofs.Signature.Growth.{derivable-extended}
use Rattle.core_rules.proofs.Derivations.{derivable-empty, good_nat, no_metas}
use Rattle.core_rules.proofs.Heads.OneAnswer.{one_some}
use Rattle.match_rules.proofs.Cover.WithClauses.{covered_as}

abbrev plus_type : Term
plus_type = Pi Explicit 0 nat_type (Pi Explicit 0 nat_type nat_type)

abbrev zero_first : Clause
zero_first = clause_of addition_by_clauses zero_clause

abbrev suc_first : Clause
suc_first = clause_of addition_by_clauses suc_clause

abbrev sums : List Clause
sums = zero_first ∷ suc_first ∷ []

zero_head : HasHead addition_by_clauses zero_term 0 []
zero_head = record { params = End; steps = 0; heads = H.form refl }

suc_head : (i : ℕ) → HasHead addition_by_clauses (suc_term (Var i)) 1 (Arg Explicit (Var i) ∷ [])
suc_head i = record { params = End; steps = 0; heads = H.argument (H.form refl) }

not_zero : ◌≢◌ {A = ℕ} 1 0
not_zero e = absurd (omega (arith, e))

zero_covered : Covers addition_by_clauses sums 0 (Arg Explicit zero_term ∷ []) (Intro (Leaf (Var 0) 0))
zero_covered = V.next Explicit (V.argument (V.arg (V.of_con refl zero_head V.end) V.end) V.any)
    (V.ends {q = zero_first} {σ = (0, Var 0) ∷ []} {t = Var 0} (V.ends (V.arg (V.of_con refl zero_head V.end) (V.arg V.any V.end))) refl)

suc_covered : Covers addition_by_clauses sums 1 (Arg Explicit (suc_term (Var 0)) ∷ []) (Intro (Leaf (suc_term (plus_term (Var 1) (Var 0))) 1))
suc_covered = V.next Explicit (V.skip (V.arg (V.other refl (suc_head 0) not_zero) V.end) (V.argument (V.arg (V.of_con refl (suc_head 0) (V.arg V.any V.end)) V.end) V.any))
    (V.ends {q = suc_first} {σ = (1, Var 1) ∷ (0, Var 0) ∷ []} {t = suc_term (plus_term (Var 1) (Var 0))}
    (V.skip (V.arg (V.other refl (suc_head 1) not_zero) (V.arg V.any V.end)) (V.ends (V.arg (V.of_con refl (suc_head 1) (V.arg V.any V.end)) (V.arg V.any V.end)))) refl)

-- what a branch of the split at the first number has to show
abbrev Branched : ℕ → ConDecl Term → Branch Term × Tree Term → Type 0
Branched c con p = Covers addition_by_clauses sums (length p.0.keep) (elims_map (λ t. under p.0.values (under (into 0 1 (length con.args) (new_con c [] con.args)) t)) (Arg Explicit (Var 0) ∷ [])) p.1

branched : (c : ℕ) (con : ConDecl Term) (b : Branch Term) (S : Tree Term) → con_decl addition_by_clauses c ≡ Some con → con_branch plus_branches c ≡ Some (b, S) → Branched c con (b, S)
branched zero con b S d e = transport (λ con. Branched 0 con (b, S)) (one_some d) (transport (Branched 0 zero_con) (one_some e) zero_covered)
branched (suc zero) con b S d e = transport (λ con. Branched 1 con (b, S)) (one_some d) (transport (Branched 1 suc_con) (one_some e) suc_covered)
branched (suc (suc c)) con b S d e =
    let no : eqb 0 (suc (suc c)) ≡ false = grind (arith, common_steps) in
    let nor : eqb 1 (suc (suc c)) ≡ false = grind (arith, common_steps) in
    absurd (none_some (rw (no, nor) at e))
  where
    none_some : ◌≡◌ {A = Option (Branch Term × Tree Term)} None (Some (b, S)) → ⊥
    none_some e = cc e

covered : Covers addition_by_clauses sums 0 [] plus_covered
covered = V.next Explicit (V.argument V.end V.of_con) (V.splits [] (V.at_split (V.arg V.at_var V.end)) branched)

pub is_covered : IsCovered addition_by_clauses 0
is_covered = covered_as addition_by_clauses 0 3 plus_type (zero_clause ∷ suc_clause ∷ []) plus_covered refl covered

-- the derivation

abbrev known : Signature Term
known = Family nat ∷ Open 3 plus_type ∷ []

abbrev number : Context Term
number = entry Explicit 0 nat_type ∷ []

abbrev numbers : Context Term
numbers = entry Explicit 0 nat_type ∷ number

abbrev at_first : IsAt known number 0 0
at_first = record { entry = entry Explicit 0 nat_type; decl = nat; params = []; indices = []; stands = refl; is_decl = refl; as_many = refl; as_many_indices = refl; is = C.same }

abbrev no_keep : List ℕ
no_keep = []

abbrev no_values : List Term
no_values = []

keeps_none : (j k : ℕ) → slice_get no_keep j ≡ Some k → slice_get no_values k ≡ Some (Var j)
keeps_none j k e = absurd cc

keeps_one : (j k : ℕ) → slice_get (0 ∷ []) j ≡ Some k → slice_get (Var 0 ∷ []) k ≡ Some (Var j)
keeps_one zero k e = let p : 0 ≡ k = cc e in transport (λ k. slice_get (Var 0 ∷ []) k ≡ Some (Var 0)) p refl
keeps_one (suc j) k e = absurd cc

zero_realises : Realises known [] [] (onto no_number.context []) no_number.values no_number.keep
zero_realises = record { joins = record { long = refl; scoped = tt; values = tt; as_many = refl; kept = keeps_none }; formed = T.empty; fits = T.none }

suc_realises : Realises known (entry Explicit 3 nat_type ∷ []) [] (onto one_number.context []) one_number.values one_number.keep
suc_realises = record {
  joins = record { long = refl; scoped = (omega arith, tt); values = tt; as_many = refl; kept = keeps_one };
  formed = T.extended T.empty (record { level = 0; holds = T.fam refl });
  fits = T.more T.none (T.var {e = entry Explicit 0 nat_type} refl);
}

plus_typed_at : Typing known numbers (plus_term (Var 1) (Var 0)) nat_type
plus_typed_at = T.app {v = nat_type} (T.app {v = Pi Explicit 0 nat_type nat_type} (T.def refl) (T.var {e = entry Explicit 0 nat_type} refl)) (T.var {e = entry Explicit 0 nat_type} refl)

suc_typed_at : Typing known numbers (suc_term (plus_term (Var 1) (Var 0))) nat_type
suc_typed_at = T.app {v = nat_type} (T.con (record { fam = 0; at = 1; decl = nat; con = suc_con; place = refl; is_decl = refl; is_con = refl }) T.none) plus_typed_at

typed : TypedTree known [] plus_covered plus_type (Def 0)
typed = Y.intro C.same (Y.split at_first (record { no_eta = refl; inductive = refl })
    (Y.goes {ss = []} (record { types = _; steps = U.stop }) zero_realises (Y.intro C.same (Y.leaf (T.var {e = entry Explicit 0 nat_type} refl)))
    (Y.goes {ss = []} (record { types = _; steps = U.stop }) suc_realises (Y.intro C.same (Y.leaf suc_typed_at)) Y.no_con)))

clauses_in_scope : AllByRecursion (ClauseInScope known any_meta) (zero_clause ∷ suc_clause ∷ [])
clauses_in_scope = (
  record {
    left = record { context = (omega arith, tt); pats = ((omega arith, tt), (omega arith, tt)); ty = omega arith; named = tt; dots = tt };
    right = omega arith;
  },
  (
    record {
      left = record { context = (omega arith, (omega arith, tt)); pats = ((omega arith, (omega arith, tt)), (omega arith, tt)); ty = omega arith; named = tt; dots = tt };
      right = ((refl, tt), ((omega arith, omega arith), omega arith));
    },
    tt,
  ),
)

by_entry : (i x : ℕ) (a : Term) (qs : List (CoreClause Term)) (T : Tree Term) → slice_get addition_by_clauses i ≡ Some (Function x a qs T)
    → AllByRecursion (ClauseInScope (take i addition_by_clauses ++ Open x a ∷ []) any_meta) qs
by_entry zero x a qs T e = absurd cc
by_entry (suc zero) x a qs T e =
    let p : (x ≡ 3) × (a ≡ plus_type) × (qs ≡ zero_clause ∷ suc_clause ∷ []) = (cc e, cc e, cc e) in
    rw (p.0, p.1, p.2) clauses_in_scope
by_entry (suc (suc i)) x a qs T e = absurd cc

pub in_scope : ClausesInScope addition_by_clauses any_meta
in_scope = by_entry

pub derivation : Derivable addition_by_clauses
derivation =
    let a : Signature Term = Family nat ∷ [] in
    let one : Derivable a = derivable-extended [] (Family nat) derivable-empty good_nat no_metas.0 in
    let sorted : Typing a [] plus_type (Sort 0) = T.pi {m = 0} {n = 0} (T.fam refl) (T.pi {m = 0} {n = 0} (T.fam refl) (T.fam refl)) in
    derivable-extended a (Function 3 plus_type (zero_clause ∷ suc_clause ∷ []) plus_covered) one (D.function (record { level = 0; holds = sorted }) typed) (
      (tt, (tt, tt)),
      (
        record { left = record { context = (tt, tt); pats = (tt, (tt, tt)); ty = tt; named = tt; dots = tt }; right = tt },
        (record { left = record { context = (tt, (tt, tt)); pats = ((tt, tt), (tt, tt)); ty = tt; named = tt; dots = tt }; right = (tt, ((tt, tt), tt)) }, tt),
      ),
      (
        record { context = tt; values = tt },
        tt,
        (record { context = (tt, tt); values = (tt, tt) }, (tt, ((tt, tt), tt)), tt),
      ),
    )
