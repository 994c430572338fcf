-- The state after a variable is solved.
use Rattle.std.specs.Prelude.{◌≡◌, ℕ, ◌<◌, List, [], ◌∷◌, ◌++◌, length, map, reverse}
use Rattle.std.specs.List.{AllByRecursion}
use Rattle.std.proofs.Common.{sym, ap, ap₂, ◌∙◌}
use Rattle.std.proofs.lemmas.List.{map-append, reverse-append}
use Rattle.el_base.proofs.Lists.{map-reverse, reverse_push}
use Rattle.el_base.proofs.Throughout.{all-reverse}
use Rattle.core_rules.specs.Term.{Term}
use Rattle.core_rules.specs.Unification as U
use Rattle.core_rules.specs.Unification.{St, put, put_equation, put_in_solution, solve}
use Rattle.term_pool.specs.Pool.{Pool, tree, Extends}
use Rattle.term_pool.specs.Growth.{Extends-trans, Extends-tree}
use Rattle.index_unify.specs.declared.equation.Equation.{Equation}
use Rattle.index_unify.specs.declared.equation.Solution.{Solution}
use Rattle.index_unify.specs.State.{equations_of, solutions_of, solution_in}
use Rattle.index_unify.specs.Unified.{EquationStands, equation_in}
use Rattle.index_unify.proofs.Grown.{IdStands, id_in, SolutionStands, ids, equations, solutions, still}

abbrev as_solution : ℕ → Term → U.Solution
as_solution y t = record { var = y; value = t }

pub same_state : {ts us : List Term} {es ds : List U.Equation} {ss cs : List U.Solution} → ts ≡ us → es ≡ ds → ss ≡ cs → St ts es ss ≡ St us ds cs
same_state e f g = cc

turned : {X A Z Y : Type 0} (F : X → Y) (G : A → Z) (H : Z → Y) (xs : List X) (ks : List A) → map F xs ≡ map H (map G ks) → map F (reverse xs) ≡ map H (map G (reverse ks))
turned F G H xs ks e = map-reverse F xs ∙ (ap reverse e ∙ (sym (map-reverse H (map G ks)) ∙ ap (map H) (sym (map-reverse G ks))))

module _ (p q r v : Pool) (pq : Extends p q) (qr : Extends q r) (rv : Extends r v) (x u : ℕ) (l : u < length p.trees) where
  qv : Extends q v
  qv = Extends-trans qr rv

  pr : Extends p r
  pr = Extends-trans pq qr

  types_are : (ts us : List ℕ) → AllByRecursion (λ i. i < length q.trees) us → map (tree q) us ≡ map (put x (tree p u)) (map (tree p) ts) → map (tree v) us ≡ map (put x (tree p u)) (map (tree p) ts)
  types_are ts us a e = still IdStands id_in ids q v qv us a ∙ e

  pub equations_are : (es ds : List Equation) → AllByRecursion (EquationStands (length p.trees)) es → AllByRecursion (EquationStands (length r.trees)) ds → map (equation_in (tree r)) ds ≡ map (put_equation x (tree q u)) (map (equation_in (tree q)) es)
      → map (equation_in (tree v)) ds ≡ map (put_equation x (tree p u)) (map (equation_in (tree p)) es)
  equations_are es ds a b e =
      still EquationStands equation_in equations r v rv ds b
      ∙ (e ∙ (ap (λ t. map (put_equation x t) (map (equation_in (tree q)) es)) (Extends-tree u pq l) ∙ ap (map (put_equation x (tree p u))) (still EquationStands equation_in equations p q pq es a)))

  solutions_are : (ss cs : List Solution) → AllByRecursion (SolutionStands (length p.trees)) ss → map (solution_in (tree v)) cs ≡ map (put_in_solution x (tree r u)) (map (solution_in (tree r)) ss)
      → map (solution_in (tree v)) cs ≡ map (put_in_solution x (tree p u)) (map (solution_in (tree p)) ss)
  solutions_are ss cs a e = e ∙ (ap (λ t. map (put_in_solution x t) (map (solution_in (tree r)) ss)) (Extends-tree u pr l) ∙ ap (map (put_in_solution x (tree p u))) (still SolutionStands solution_in solutions p r pr ss a))

  module _ (ts us : List ℕ) (es ds : List Equation) (ss cs bs : List Solution) (s : Solution) (var : s.var ≡ x) (value : s.value ≡ u) (push : bs ≡ cs ++ s ∷ [])
      (types_below : AllByRecursion (λ i. i < length q.trees) us) (es_below : AllByRecursion (EquationStands (length p.trees)) es) (ds_below : AllByRecursion (EquationStands (length r.trees)) ds)
      (ss_below : AllByRecursion (SolutionStands (length p.trees)) ss) (cs_below : AllByRecursion (SolutionStands (length v.trees)) cs) where
    value_is : tree v s.value ≡ tree p u
    value_is = ap (tree v) value ∙ Extends-tree u (Extends-trans pr rv) l

    pub solved_state : map (tree q) us ≡ map (put x (tree p u)) (map (tree p) ts) → map (equation_in (tree r)) ds ≡ map (put_equation x (tree q u)) (map (equation_in (tree q)) es) → map (solution_in (tree v)) cs ≡ map (put_in_solution x (tree r u)) (map (solution_in (tree r)) ss)
        → St (map (tree v) us) (equations_of v ds) (solutions_of v bs) ≡ solve x (tree p u) (map (tree p) ts) (equations_of p es) (solutions_of p ss)
    solved_state a b c =
        same_state (types_are ts us types_below a) (turned (equation_in (tree v)) (equation_in (tree p)) (put_equation x (tree p u)) ds es (equations_are es ds es_below ds_below b))
        (ap (λ zs. map (solution_in (tree v)) (reverse zs)) push ∙ (ap (map (solution_in (tree v))) (reverse_push cs s) ∙ ap₂ (λ y ys. y ∷ ys) (ap₂ as_solution var value_is) (turned (solution_in (tree v)) (solution_in (tree p)) (put_in_solution x (tree p u)) cs ss (solutions_are ss cs ss_below c))))

-- the solutions stay as the pool grows
pub solutions_stay : (p q : Pool) → Extends p q → (ss : List Solution) → AllByRecursion (SolutionStands (length p.trees)) ss → solutions_of q ss ≡ solutions_of p ss
solutions_stay p q g ss a = still SolutionStands solution_in solutions p q g (reverse ss) (all-reverse (SolutionStands (length p.trees)) ss a)

-- equations that are put in front
pub equations_append : (p : Pool) (es ds : List Equation) → equations_of p (es ++ ds) ≡ equations_of p ds ++ equations_of p es
equations_append p es ds = ap (map (equation_in (tree p))) (reverse-append es ds) ∙ map-append (equation_in (tree p)) (reverse ds) (reverse es)
