-- The first item of a vector: its tree follows its clause, and a call fits where the index has the forced value.
use Rattle.std.specs.Prelude.{◌≡◌, ◌↔◌, ℕ, false, eqb, List, [], ◌∷◌, ◌++◌, length, map, take, slice_get, Option, Some, None, refl, zero, suc}
use Rattle.std.specs.List.{AllByRecursion}
use Rattle.std.proofs.Common.{ap, ap₂, sym, ◌∙◌, subst as transport, arith}
use Rattle.std.proofs.lemmas.Grind.{common_steps}
use Rattle.core_rules.specs.declared.Flag.TheVariants.{Explicit, Implicit}
use Rattle.core_rules.specs.Term.{Term, Terms, Var, App, Def, nameless, IsSameTerm}
use Rattle.core_rules.specs.Substitution.{under}
use Rattle.core_rules.specs.Signature.{CoreClause, Branch, Tree, Leaf, NoCon, Refuted, Goes, ConBranches, ConDecl, Family, Open, Function, con_branch, con_decl}
use Rattle.core_rules.specs.Elimination.{Elim, Arg, args}
use Rattle.core_rules.specs.Run.{spread, kept}
use Rattle.core_rules.specs.Conversion.{Conv}
use Rattle.core_rules.specs.InScope.{ClauseInScope, ClausesInScope, any_meta}
use Rattle.core_rules.specs.Heads as H
use Rattle.core_rules.specs.TypedTree.{into, new_con}
use Rattle.core_rules.specs.Derivable.{Derivable}
use Rattle.core_rules.specs.Examples.{nat, vec, cons_con}
use Rattle.core_rules.specs.Addition.{nat_type}
use Rattle.core_rules.specs.VectorHead.{first_type, first_tree, at_cons}
use Rattle.core_rules.specs.TreeExamples.{cons_term, firsts}
use Rattle.match_rules.specs.VectorClauses.{first_clause, first_by_clauses}
use Rattle.match_rules.specs.Matching as M
use Rattle.match_rules.specs.Matching.{Clause, clause_of, HasHead, FirstMatch, Fits, FitsBranch}
use Rattle.match_rules.specs.Covering as V
use Rattle.match_rules.specs.Covering.{elims_map, Covers}
use Rattle.match_rules.specs.Laws.{IsCovered}
use Rattle.core_rules.proofs.Signature.Growth.{derivable-taken}
use Rattle.core_rules.proofs.Trees.Append.{first_derivable}
use Rattle.core_rules.proofs.Trees.Scoped.{derivable-in_scope}
use Rattle.core_rules.proofs.Trees.Regular.{derivable-typed}
use Rattle.core_rules.proofs.Heads.OneAnswer.{one_some}
use Rattle.match_rules.proofs.Cover.Values.{under-var}
use Rattle.match_rules.proofs.Cover.Standing.{one_head}
use Rattle.match_rules.proofs.Cover.First.{clause_holds}
use Rattle.match_rules.proofs.Cover.WithClauses.{with_clauses, covered_as}

abbrev by_clause : Clause
by_clause = clause_of first_by_clauses first_clause

abbrev split_branches : ConBranches Term
split_branches = Refuted 2 (Goes 3 at_cons (Leaf (Var 1) 0) NoCon)

cons_head : (ps : Terms) (m x xs : Term) → HasHead first_by_clauses (cons_term ps m x xs) 3 (Arg Implicit m ∷ Arg Explicit x ∷ Arg Explicit xs ∷ [])
cons_head ps m x xs = record { params = ps; steps = 0; heads = H.argument (H.argument (H.argument (H.form refl))) }

-- ---- the tree follows the clause

abbrev vector_split : List Elim
vector_split = Arg Explicit (Var 1) ∷ Arg Explicit (Var 0) ∷ []

-- what a branch of the split at the vector has to show
abbrev Branched : ℕ → ConDecl Term → Branch Term × Tree Term → Type 0
Branched c con p = Covers first_by_clauses (by_clause ∷ []) (length p.0.keep) (elims_map (λ t. under p.0.values (under (into 0 2 (length con.args) (new_con c (nat_type ∷ []) con.args)) t)) vector_split) p.1

cons_covered : Branched 3 cons_con (at_cons, Leaf (Var 1) 0)
cons_covered = V.ends {q = by_clause} {σ = (2, Var 2) ∷ (1, Var 1) ∷ (0, Var 0) ∷ []} {t = Var 1}
    (V.ends (V.arg V.any (V.arg (V.of_con refl (cons_head _ (Var 2) (Var 1) (Var 0)) (V.arg V.any (V.arg V.any (V.arg V.any V.end)))) V.end))) refl

none_some : {p : Branch Term × Tree Term} → ◌≡◌ {A = Option (Branch Term × Tree Term)} None (Some p) → ⊥
none_some e = cc e

branched : (c : ℕ) (con : ConDecl Term) (b : Branch Term) (S : Tree Term) → con_decl first_by_clauses c ≡ Some con → con_branch split_branches c ≡ Some (b, S) → Branched c con (b, S)
branched zero con b S d e = absurd (none_some e)
branched (suc zero) con b S d e = absurd (none_some e)
branched (suc (suc zero)) con b S d e = absurd (none_some e)
branched (suc (suc (suc zero))) con b S d e = transport (λ con. Branched 3 con (b, S)) (one_some d) (transport (Branched 3 cons_con) (one_some e) cons_covered)
branched (suc (suc (suc (suc c)))) con b S d e =
    let no : eqb 2 (suc (suc (suc (suc c)))) ≡ false = grind (arith, common_steps) in
    let nor : eqb 3 (suc (suc (suc (suc c)))) ≡ false = grind (arith, common_steps) in
    absurd (none_some (rw (no, nor) at e))

covered : Covers first_by_clauses (by_clause ∷ []) 0 [] first_tree
covered = V.next Explicit (V.argument V.end V.any) (V.next Explicit (V.argument (V.arg V.any V.end) V.of_con)
    (V.splits (nat_type ∷ []) (V.at_split (V.arg V.any (V.arg V.at_var V.end))) branched))

pub is_covered : IsCovered first_by_clauses 0
is_covered = covered_as first_by_clauses 0 3 first_type (first_clause ∷ []) first_tree refl covered

-- ---- the derivation, and the scopes of the clause

pub derivation : Derivable first_by_clauses
derivation = with_clauses (Family nat ∷ Family vec ∷ []) 3 first_type [] (first_clause ∷ []) first_tree (derivable-taken firsts 2 first_derivable) (first_derivable.good 2 _ refl)
    (record { left = record { context = (tt, (tt, (((tt, tt), tt), tt))); pats = (tt, ((tt, (tt, (tt, tt))), tt)); ty = tt; named = tt; dots = tt }; right = tt }, tt)

clause_in_scope : ClauseInScope (Family nat ∷ Family vec ∷ Open 3 first_type ∷ []) any_meta first_clause
clause_in_scope = record {
  left = record {
    context = (omega arith, (omega arith, (((omega arith, omega arith), omega arith), tt)));
    pats = (omega arith, ((omega arith, (omega arith, (omega arith, (omega arith, tt)))), tt));
    ty = omega arith;
    named = tt;
    dots = tt;
  };
  right = omega arith;
}

by_entry : (i x : ℕ) (a : Term) (qs : List (CoreClause Term)) (T : Tree Term) → slice_get first_by_clauses i ≡ Some (Function x a qs T)
    → AllByRecursion (ClauseInScope (take i first_by_clauses ++ Open x a ∷ []) any_meta) qs
by_entry zero x a qs T e = absurd cc
by_entry (suc zero) x a qs T e = absurd cc
by_entry (suc (suc zero)) x a qs T e =
    let p : (x ≡ 3) × (a ≡ first_type) × (qs ≡ first_clause ∷ []) = (cc e, cc e, cc e) in
    rw (p.0, p.1, p.2) (clause_in_scope, tt)
by_entry (suc (suc (suc i))) x a qs T e = absurd cc

pub in_scope : ClausesInScope first_by_clauses any_meta
in_scope = by_entry

-- ---- a call at cons

module _ (ps : Terms) (n m x xs : Term) where
  abbrev call : List Elim
  call = Arg Explicit n ∷ Arg Explicit (cons_term ps m x xs) ∷ []

  -- the variables of the call, innermost first
  abbrev given : List Term
  given = cons_term ps m x xs ∷ n ∷ []

  -- those of cons in place of the vector, and those that its branch keeps
  abbrev opened : List Term
  opened = xs ∷ x ∷ m ∷ n ∷ []

  abbrev left_over : List Term
  left_over = xs ∷ x ∷ n ∷ []

  values : map (under left_over) at_cons.values ≡ xs ∷ x ∷ n ∷ n ∷ []
  values = ap₂ ◌∷◌ (under-var left_over 0) (ap₂ ◌∷◌ (under-var left_over 1) (ap₂ ◌∷◌ (under-var left_over 2) (ap₂ ◌∷◌ (under-var left_over 2) refl)))

  forced : IsSameTerm m n → map nameless opened ≡ map nameless (map (under left_over) at_cons.values)
  forced e = ap (λ t. nameless xs ∷ nameless x ∷ t ∷ nameless n ∷ []) e ∙ sym (ap (map nameless) values)

  enters : IsSameTerm m n → (k : ℕ) (ds : List Elim) → HasHead first_by_clauses (cons_term ps m x xs) k ds → FitsBranch first_by_clauses split_branches 0 k ds given []
  enters e k ds h =
      let p = one_head first_by_clauses (cons_head ps m x xs) h in
      transport (λ k. FitsBranch first_by_clauses split_branches 0 k ds given []) p.0
      (transport (λ ds. FitsBranch first_by_clauses split_branches 0 3 ds given []) p.1
      (M.goes cons_con (m ∷ x ∷ xs ∷ []) at_cons (Leaf (Var 1) 0) refl refl refl refl (forced e) M.at_leaf))

  fits : IsSameTerm m n → Fits first_by_clauses first_tree [] call
  fits e = M.intro (M.intro (M.split (enters e)))

  abbrev taken : List Elim
  taken = Arg Implicit m ∷ Arg Explicit x ∷ Arg Explicit xs ∷ []

  abbrev AsForced : List Term → Branch Term → Type 0
  AsForced us b = map nameless (spread 0 us given) ≡ map nameless (map (under (kept b (spread 0 us given))) b.values)

  of_arguments : (us : List Term) → length us ≡ 3 → taken ≡ args cons_con.args us → AsForced us at_cons → IsSameTerm m n
  of_arguments [] l a s = absurd (omega (arith, l))
  of_arguments (t ∷ []) l a s = absurd (omega (arith, l))
  of_arguments (t ∷ u ∷ []) l a s = absurd (omega (arith, l))
  of_arguments (t ∷ u ∷ v ∷ []) l a s =
      let e : m ≡ t = cc a in
      let f : nameless t ≡ nameless (under (v ∷ u ∷ n ∷ []) (Var 2)) = cc s in
      ap nameless e ∙ (f ∙ ap nameless (under-var (v ∷ u ∷ n ∷ []) 2))
  of_arguments (t ∷ u ∷ v ∷ w ∷ us) l a s = absurd (omega (arith, l))

  of_branch : (con : ConDecl Term) (us : List Term) (b : Branch Term) → cons_con ≡ con → at_cons ≡ b → length us ≡ length con.args → taken ≡ args con.args us → AsForced us b → IsSameTerm m n
  of_branch con us b p q l a s = of_arguments us (l ∙ sym (ap (λ c. length c.args) p)) (transport (λ c. taken ≡ args c.args us) (sym p) a) (transport (AsForced us) (sym q) s)

  of_entered : FitsBranch first_by_clauses split_branches 0 3 taken given [] → IsSameTerm m n
  of_entered (M.goes con us b T d l a c s f) = of_branch con us b (one_some d) (ap (λ p. p.0) (one_some c)) l a s

  of_fitting : Fits first_by_clauses first_tree [] call → IsSameTerm m n
  of_fitting (M.intro (M.intro (M.split f))) = of_entered (f 3 taken (cons_head ps m x xs))

  pub forced_index_fits : Fits first_by_clauses first_tree [] call ↔ IsSameTerm m n
  forced_index_fits = (of_fitting, fits)

  matches : FirstMatch first_by_clauses (by_clause ∷ []) 0 call ((2, n) ∷ (1, x) ∷ (0, xs) ∷ []) []
  matches = M.first (M.arg M.any (M.arg (M.of_con (cons_head ps m x xs) (M.arg M.any (M.arg M.any (M.arg M.any M.end)))) M.end))

pub first_of_cons : (ps : Terms) (n x xs : Term) → Conv first_by_clauses (App Explicit (App Explicit (Def 0) n) (cons_term ps n x xs)) x
first_of_cons ps n x xs =
    transport (λ w. Conv first_by_clauses (App Explicit (App Explicit (Def 0) n) (cons_term ps n x xs)) w) (under-var (xs ∷ x ∷ n ∷ []) 1)
    (clause_holds first_by_clauses (derivable-in_scope first_by_clauses derivation) (derivable-typed first_by_clauses derivation) 0 is_covered 0
    3 _ (first_clause ∷ []) first_tree by_clause (Var 1) (call ps n n x xs) [] ((2, n) ∷ (1, x) ∷ (0, xs) ∷ []) refl refl refl (fits ps n n x xs refl) (matches ps n n x xs))
