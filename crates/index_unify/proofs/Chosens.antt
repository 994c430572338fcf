-- Which variable is solved.
use Rattle.std.specs.Prelude.{◌≡◌, ℕ, ◌<◌, ◌≤◌, eqb, Bool, true, false, List, Some, None, refl}
use Rattle.std.proofs.Common.{sym, ◌∙◌, subst, arith, eqb-true}
use Rattle.core_rules.specs.Term.{Term, Var, occurs}
use Rattle.core_rules.specs.Unification.{Depends, stands, through, CanSolve}
use Rattle.unify_rules.specs.Unifier.{Chosen, left_one, right_one}
use Rattle.index_unify.specs.Dependence.{DependsOn}
use Rattle.index_unify.specs.Rules.{IsSolvable}
use Rattle.index_unify.proofs.Dependences.{eqb_refl}

module _ (ts : List Term) (x : ℕ) (t : Term) where
  pub can_solve : (DependsOn ts (λ i. eqb x i) t → ⊥) → CanSolve ts x t
  can_solve n = record {
    absent = by (occurs x t) refl;
    free = λ y o d. n (record { var = x; wanted = eqb_refl x; depends = through y o d });
  }
    where
      by : (b : Bool) → occurs x t ≡ b → occurs x t ≡ false
      by true e = absurd (n (record { var = x; wanted = eqb_refl x; depends = stands e }))
      by false e = e

  blocked : CanSolve ts x t → Depends ts t x → ⊥
  blocked c (stands o) = let f : true ≡ false = sym o ∙ c.absent in cc f
  blocked c (through y o d) = c.free y o d

  pub cannot_solve : DependsOn ts (λ i. eqb x i) t → CanSolve ts x t → ⊥
  cannot_solve d c = blocked c (subst (Depends ts t) (sym (eqb-true x d.var d.wanted)) d.depends)

strictly : (x y : ℕ) → y ≤ x → (x ≡ y → ⊥) → y < x
strictly x y l n = omega (arith, l, n)

same_var : (x y : ℕ) → Var x ≡ Var y → x ≡ y
same_var x y e = cc e

module _ (ts : List Term) (t u : Term) where
  pub no_variable : (w : Term) → ((x : ℕ) → w ≡ Var x → ⊥) → (x : ℕ) → w ≡ Var x → CanSolve ts x u → ⊥
  no_variable w n x e c = n x e

  pub not_solvable : (x : ℕ) → t ≡ Var x → DependsOn ts (λ i. eqb x i) u → IsSolvable ts t u None
  not_solvable x e d y f c = cannot_solve ts x u d (subst (λ i. CanSolve ts i u) (same_var y x (sym f ∙ e)) c)

  pub solvable : (x : ℕ) → t ≡ Var x → (DependsOn ts (λ i. eqb x i) u → ⊥) → IsSolvable ts t u (Some x)
  solvable x e n = (e, can_solve ts x u n)

  pub only_left : (x : ℕ) → IsSolvable ts t u (Some x) → IsSolvable ts u t None → Chosen ts t u x u
  only_left x h n = subst (λ w. Chosen ts w u x u) (sym h.0) (left_one h.1 (λ y e c. absurd (n y e (subst (λ w. CanSolve ts y w) (sym h.0) c))))

  pub only_right : (y : ℕ) → IsSolvable ts t u None → IsSolvable ts u t (Some y) → Chosen ts t u y t
  only_right y n h = subst (λ w. Chosen ts t w y t) (sym h.0) (right_one h.1 (λ x e c. absurd (n x e (subst (λ w. CanSolve ts x w) (sym h.0) c))))

  pub left_later : (x y : ℕ) → x < y → IsSolvable ts t u (Some x) → IsSolvable ts u t (Some y) → Chosen ts t u x u
  left_later x y l h k = subst (λ w. Chosen ts w u x u) (sym h.0) (left_one h.1 (λ z e c. subst (λ i. x < i) (same_var y z (sym k.0 ∙ e)) l))

  pub right_later : (x y : ℕ) → y ≤ x → IsSolvable ts t u (Some x) → IsSolvable ts u t (Some y) → Chosen ts t u y t
  right_later x y l h k = subst (λ w. Chosen ts t w y t) (sym k.0) (right_one k.1 (λ z e c. subst (λ i. y < i) (same_var x z (sym h.0 ∙ e)) less))
    where
      apart : x ≡ y → ⊥
      apart e = let o : occurs x (Var y) ≡ false = subst (λ w. occurs x w ≡ false) k.0 h.1.absent in let f : true ≡ false = sym (subst (λ i. eqb y i ≡ true) (sym e) (eqb_refl y)) ∙ o in cc f

      less : y < x
      less = strictly x y l apart
