-- The rule for two head forms by what its parts tell.
use Rattle.std.specs.Prelude.{◌≡◌, ◌≢◌, ℕ, List, [], Option, Some, None}
use Rattle.std.proofs.Common.{sym, ap, ◌∙◌, subst, inl, inr}
use Rattle.core_rules.specs.Term.{Term}
use Rattle.core_rules.specs.Elimination.{Elim}
use Rattle.core_rules.specs.Unification as U
use Rattle.core_rules.specs.Unification.{con_spine, Pairs}
use Rattle.unify_rules.specs.Unifier as O
use Rattle.unify_rules.specs.Unifier.{SameCon, same_con, OtherCon, other_con, Applies, injects, conflicts}
use Rattle.index_unify.specs.declared.equation.Solution.{Solution}
use Rattle.index_unify.specs.Rules.{NoConstructors, ByConstructors, same, other, IsSide}

abbrev con_of : Option (ℕ × List Elim) → ℕ
con_of None = 0
con_of (Some s) = s.0

abbrev args_of : Option (ℕ × List Elim) → List Elim
args_of None = []
args_of (Some s) = s.1

abbrev Spine : Type 0
Spine = Option (ℕ × List Elim)

no_spine : (o : Spine) (k : ℕ) (es : List Elim) → o ≡ None → o ≡ Some (k, es) → ⊥
no_spine o k es n e = let h : ◌≡◌ {A = Spine} None (Some (k, es)) = sym n ∙ e in cc h

module _ (t u : Term) where
  inject_left : {qs : List U.Equation} → con_spine t [] ≡ None → SameCon t u qs → ⊥
  inject_left n (same_con {k = k} {xs = xs} e d p) = no_spine (con_spine t []) k xs n e

  conflict_left : {j k : ℕ} → con_spine t [] ≡ None → OtherCon t u j k → ⊥
  conflict_left {j} n (other_con {xs = xs} e d m) = no_spine (con_spine t []) j xs n e

  inject_right : {qs : List U.Equation} → con_spine u [] ≡ None → SameCon t u qs → ⊥
  inject_right n (same_con {k = k} {ys = ys} e d p) = no_spine (con_spine u []) k ys n d

  conflict_right : {j k : ℕ} → con_spine u [] ≡ None → OtherCon t u j k → ⊥
  conflict_right {j} {k} n (other_con {ys = ys} e d m) = no_spine (con_spine u []) k ys n d

  pub no_left : con_spine t [] ≡ None → NoConstructors t u
  no_left n = record { no_inject = λ qs s. inject_left n s; no_conflict = λ j k s. conflict_left n s }

  pub no_right : con_spine u [] ≡ None → NoConstructors t u
  no_right n = record { no_inject = λ qs s. inject_right n s; no_conflict = λ j k s. conflict_right n s }

  module _ (j k : ℕ) (es ds : List Elim) (left : Some (j, es) ≡ con_spine t []) (right : Some (k, ds) ≡ con_spine u []) where
    same_inject : {qs : List U.Equation} → ((qs : List U.Equation) → Pairs es ds qs → ⊥) → SameCon t u qs → ⊥
    same_inject {qs} n (same_con {xs = xs} {ys = ys} e d p) =
        let a : xs ≡ es = ap args_of (sym (left ∙ e)) in
        let b : ys ≡ ds = ap args_of (sym (right ∙ d)) in
        n qs (subst (λ zs. Pairs es zs qs) b (subst (λ zs. Pairs zs ys qs) a p))

    same_conflict : {l m : ℕ} → j ≡ k → OtherCon t u l m → ⊥
    same_conflict {l} {m} q (other_con e d n) = n (ap con_of (sym (left ∙ e)) ∙ (q ∙ ap con_of (right ∙ d)))

    -- the same constructor without equations of its arguments
    pub no_pairs : j ≡ k → ((qs : List U.Equation) → Pairs es ds qs → ⊥) → NoConstructors t u
    no_pairs q n = record { no_inject = λ qs s. same_inject n s; no_conflict = λ l m s. same_conflict q s }

    pub pairs_made : (qs : List U.Equation) → j ≡ k → Pairs es ds qs → ByConstructors t u (O.Inject qs)
    pairs_made qs q p = same (same_con (sym left) (subst (λ i. con_spine u [] ≡ Some (i, ds)) (sym q) (sym right)) p)

    pub they_differ : j ≢ k → ByConstructors t u (O.Ends (O.Conflict j k))
    they_differ n = other (other_con (sym left) (sym right) n)

pub applies_by : (ts : List Term) (t u : Term) (r : O.Rule) → ByConstructors t u r → Applies ts t u r
applies_by ts t u r (same s) = injects s
applies_by ts t u r (other s) = conflicts s

-- what holds of both sides holds of the chosen value
pub side_has : (P : ℕ → Type 0) (t u : ℕ) (s : Solution) → IsSide t u (Some s) → P t → P u → P s.value
side_has P t u s (inl e) a b = subst P (sym e) a
side_has P t u s (inr e) a b = subst P (sym e) b
