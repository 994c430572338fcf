-- Metavariables of a constructor's arguments, and of what a value is put in, are those of the terms that these come from.
use Rattle.std.specs.Prelude.{◌≡◌, ℕ, ◌+◌, Bool, true, false, eqb, cond, List, [], ◌∷◌, map, reverse, Option, Some, None}
use Rattle.std.specs.List.{AllByRecursion}
use Rattle.std.proofs.Common.{sym, subst}
use Rattle.el_base.proofs.Throughout.{all-from_reversed, all-map}
use Rattle.core_rules.specs.Term.{Term, Terms, Var, Sort, Pi, Lam, App, Def, Fam, Con, Proj, Meta, End, And, AllMetas, AllMetasIn}
use Rattle.core_rules.specs.Substitution.{over, over_all, shift}
use Rattle.core_rules.specs.Elimination.{Elim, Arg, Field}
use Rattle.core_rules.specs.Heads.{Solutions}
use Rattle.core_rules.specs.Unification as U
use Rattle.core_rules.specs.Unification.{con_spine, put_var, put, put_equation}
use Rattle.core_rules.proofs.Heads.InFull.{metas-shift}
use Rattle.term_pool.specs.Pool.{Pool, tree}
use Rattle.index_unify.specs.declared.equation.Equation.{Equation}
use Rattle.index_unify.specs.declared.constructors.Argument.{Argument}
use Rattle.index_unify.specs.Unified.{equation_in}
use Rattle.index_unify.specs.Constructors.{argument_in, arguments_in, AllArguments}
use Rattle.index_unify.specs.State.{IsSettled, EquationSettled, AllSettled}

module _ (P : ℕ → Type 0) where
  -- ---- along a spine

  abbrev InElims : List Elim → Type 0
  InElims [] = Unit {0}
  InElims (Arg b t ∷ es) = AllMetas P t × InElims es
  InElims (Field k ∷ es) = InElims es

  abbrev In : Option (ℕ × List Elim) → Type 0
  In None = Unit {0}
  In (Some s) = InElims s.1

  spine-metas : (t : Term) (es : List Elim) → AllMetas P t → InElims es → In (con_spine t es)
  spine-metas (Con k ps) es h i = i
  spine-metas (App b t u) es h i = spine-metas t (Arg b u ∷ es) h.0 (h.1, i)
  spine-metas (Var j) es h i = tt
  spine-metas (Sort n) es h i = tt
  spine-metas (Pi b x a t) es h i = tt
  spine-metas (Lam b x a t) es h i = tt
  spine-metas (Def f) es h i = tt
  spine-metas (Fam d) es h i = tt
  spine-metas (Proj f t) es h i = tt
  spine-metas (Meta m ts) es h i = tt

  each : (f : ℕ → Term) (xs : List Argument) → InElims (map (argument_in f) xs) → AllArguments (λ i. AllMetas P (f i)) xs
  each f [] h = tt
  each f (x ∷ xs) h = (h.0, each f xs h.1)

  pub arguments-metas : (f : ℕ → Term) (t : Term) (k : ℕ) (xs : List Argument) → Some (k, arguments_in f xs) ≡ con_spine t [] → AllMetas P t → AllArguments (λ i. AllMetas P (f i)) xs
  arguments-metas f t k xs e h =
      (all-from_reversed (λ x. AllMetas P (f x.arg)) xs [] (each f (reverse xs) (subst In (sym e) (spine-metas t [] h tt)))).0

  -- ---- where a value is put

  module _ (f : ℕ → ℕ → Term) (e : (d i : ℕ) → AllMetas P (f d i)) where
    mutual
      over-metas : (d : ℕ) (t : Term) → AllMetas P t → AllMetas P (over f d t)
      over-metas d (Var i) h = e d i
      over-metas d (Sort n) h = tt
      over-metas d (Pi c x s t) h = (over-metas d s h.0, over-metas (d + 1) t h.1)
      over-metas d (Lam c x s t) h = (over-metas d s h.0, over-metas (d + 1) t h.1)
      over-metas d (App c t u) h = (over-metas d t h.0, over-metas d u h.1)
      over-metas d (Def k) h = tt
      over-metas d (Fam k) h = tt
      over-metas d (Con k ts) h = over_all-metas d ts h
      over-metas d (Proj k t) h = over-metas d t h
      over-metas d (Meta m ts) h = (h.0, over_all-metas d ts h.1)

      over_all-metas : (d : ℕ) (ts : Terms) → AllMetasIn P ts → AllMetasIn P (over_all f d ts)
      over_all-metas d End h = tt
      over_all-metas d (And t ts) h = (over-metas d t h.0, over_all-metas d ts h.1)

  pub put-metas : (x : ℕ) (u t : Term) → AllMetas P u → AllMetas P t → AllMetas P (put x u t)
  put-metas x u t h k = over-metas (put_var x u) at 0 t k
    where
      at : (d i : ℕ) → AllMetas P (put_var x u d i)
      at d i = by (eqb i (x + d))
        where
          by : (b : Bool) → AllMetas P (cond b (shift u 0 d) (Var i))
          by true = metas-shift P u 0 d h
          by false = tt

-- ---- equations

module _ (s : Solutions) where
  abbrev pub Settled : U.Equation → Type 0
  Settled e = IsSettled s e.left × IsSettled s e.right

  back : (f : ℕ → Term) (es : List Equation) → AllByRecursion Settled (map (equation_in f) es) → AllByRecursion (λ e. IsSettled s (f e.left) × IsSettled s (f e.right)) es
  back f [] h = tt
  back f (e ∷ es) h = (h.0, back f es h.1)

  pub settled_in : (p : Pool) (es : List Equation) → AllSettled s p es → AllByRecursion Settled (map (equation_in (tree p)) es)
  settled_in p es h = all-map (EquationSettled s p) Settled (equation_in (tree p)) (λ e k. k) es h

  pub settled_back : (p : Pool) (es : List Equation) → AllByRecursion Settled (map (equation_in (tree p)) es) → AllSettled s p es
  settled_back p es h = back (tree p) es h

  puts : (x : ℕ) (u : Term) (es : List U.Equation) → IsSettled s u → AllByRecursion Settled es → AllByRecursion Settled (map (put_equation x u) es)
  puts x u es h k = all-map Settled Settled (put_equation x u) (λ e l. (put-metas (λ m. s m ≡ None) x u e.left h l.0, put-metas (λ m. s m ≡ None) x u e.right h l.1)) es k

  -- the equations ds of q are the equations es of p, in which a settled value is put
  pub put_settled : (p q : Pool) (x : ℕ) (u : Term) (es ds : List Equation) → map (equation_in (tree q)) ds ≡ map (put_equation x u) (map (equation_in (tree p)) es) → IsSettled s u → AllSettled s p es → AllSettled s q ds
  put_settled p q x u es ds e h k = settled_back q ds (subst (AllByRecursion Settled) (sym e) (puts x u (map (equation_in (tree p)) es) h (settled_in p es k)))

  -- the same equations as the pool changes
  pub same_settled : (p q : Pool) (es : List Equation) → map (equation_in (tree q)) es ≡ map (equation_in (tree p)) es → AllSettled s p es → AllSettled s q es
  same_settled p q es e k = settled_back q es (subst (AllByRecursion Settled) (sym e) (settled_in p es k))
