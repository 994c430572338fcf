-- Index equations, made one after the other.
use Rattle.std.proofs.Common.{◌≡◌, ◌<◌, ℕ, ◌+◌, List, [], ◌∷◌, ◌++◌, length, map, append_assoc, refl, sym, ap, ap₂, subst, ◌∙◌, arith}
use Rattle.std.specs.Prelude.{reverse}
use Rattle.std.specs.List.{AllByRecursion}
use Rattle.std.proofs.lemmas.List.{map-append, length-map}
use Rattle.el_base.proofs.Throughout.{all-push, all-weaker}
use Rattle.core_rules.specs.Term.{Term}
use Rattle.core_rules.specs.Substitution.{shift, under}
use Rattle.core_rules.specs.Signature.{ConDecl}
use Rattle.core_rules.specs.Mapped.{con_map, entry_map, telescope_map}
use Rattle.core_rules.specs.TypedTree.{vars, equations, index_equations}
use Rattle.core_rules.specs.Unification as U
use Rattle.core_rules.specs.Unification.{eq}
use Rattle.term_pool.specs.Pool.{Pool, Extends, StandsFor, tree}
use Rattle.term_pool.specs.Growth.{Extends-length, Extends-tree}
use Rattle.index_unify.specs.declared.equation.Equation.{Equation}
use Rattle.tree_kernel.specs.Jobs.{split_in}
use Rattle.tree_kernel.specs.declared.job.Split as S
use Rattle.index_unify.specs.Unified.{EquationStands, equation_in, equations_in}

-- the environment under which an index of the constructor stands
abbrev pub env_of : Pool → List ℕ → ℕ → List Term
env_of p params n = vars 0 n ++ map (λ t. shift t 0 n) (reverse (map (tree p) params))

pub record StandEquations (p : Pool) (es : List Equation) (qs : List U.Equation) : Type 0 where
  pub below : AllByRecursion (EquationStands (length p.trees)) es
  pub is : equations_in p es ≡ qs

equations-stay : (p q : Pool) (es : List Equation) → Extends p q → AllByRecursion (EquationStands (length p.trees)) es → equations_in q es ≡ equations_in p es
equations-stay p q [] e h = refl
equations-stay p q (x ∷ es) e h = ap₂ (λ (y : U.Equation) (ys : List U.Equation). y ∷ ys) (ap₂ eq (Extends-tree x.left e h.0.0) (Extends-tree x.right e h.0.1))
    (equations-stay p q es e h.1)

equations-more : (p q : Pool) (es : List Equation) (qs : List U.Equation) → Extends p q → StandEquations p es qs → StandEquations q es qs
equations-more p q es qs e s = record {
  below = all-weaker _ _ (λ (x : Equation) (l : EquationStands (length p.trees) x).
      (omega (arith, Extends-length e, l.0), omega (arith, Extends-length e, l.1))) es s.below;
  is = equations-stay p q es e s.below ∙ s.is;
}

module _ (p : Pool) (params : List ℕ) (n var by : ℕ) where
  abbrev left_of : Term → Term
  left_of t = shift (under (env_of p params n) t) 0 var

  abbrev right_of : Term → Term
  right_of u = shift u 0 by

  abbrev pub all_of : List ℕ → List ℕ → List U.Equation
  all_of ts us = equations (map left_of (map (tree p) ts)) (map right_of (map (tree p) us))

-- of all the indices these are left, and the equations of the others are made
pub record Equates (p q : Pool) (params : List ℕ) (n var by : ℕ) (ts us lefts rights : List ℕ) (made : List Equation) : Type 0 where
  pub left_below : AllByRecursion (λ i. i < length p.trees) lefts
  pub right_below : AllByRecursion (λ i. i < length p.trees) rights
  pub done : List U.Equation
  pub stand : StandEquations q made done
  pub is : done ++ all_of p params n var by lefts rights ≡ all_of p params n var by ts us

pub equates-first : (p q : Pool) (params : List ℕ) (n var by : ℕ) (ts us lefts rights : List ℕ) (made : List Equation) → lefts ≡ ts → rights ≡ us
    → AllByRecursion (λ i. i < length p.trees) ts → AllByRecursion (λ i. i < length p.trees) us → made ≡ []
    → Equates p q params n var by ts us lefts rights made
equates-first p q params n var by ts us lefts rights made l m a b e = record {
  left_below = subst (AllByRecursion (λ i. i < length p.trees)) (sym l) a;
  right_below = subst (AllByRecursion (λ i. i < length p.trees)) (sym m) b;
  done = [];
  stand = subst (λ (es : List Equation). StandEquations q es []) (sym e) (record { below = tt; is = refl });
  is = ap₂ (all_of p params n var by) l m;
}

pub equates-next : (p q r : Pool) (params : List ℕ) (n var by : ℕ) (ts us lefts rights more others : List ℕ) (made new : List Equation) (i j : ℕ) (x : Equation)
    → Equates p q params n var by ts us lefts rights made → Extends q r
    → lefts ≡ i ∷ more → rights ≡ j ∷ others → new ≡ made ++ x ∷ [] → StandsFor r x.left (left_of p params n var by (tree p i))
    → StandsFor r x.right (right_of p params n var by (tree p j)) → Equates p r params n var by ts us more others new
equates-next p q r params n var by ts us lefts rights more others made new i j x h k l m e s t =
    let a = subst (AllByRecursion (λ i. i < length p.trees)) l h.left_below in
    let b = subst (AllByRecursion (λ i. i < length p.trees)) m h.right_below in
    let y : U.Equation = eq (left_of p params n var by (tree p i)) (right_of p params n var by (tree p j)) in
    let o = equations-more q r made h.done k h.stand in
    record {
      left_below = a.1;
      right_below = b.1;
      done = h.done ++ y ∷ [];
      stand = subst (λ (es : List Equation). StandEquations r es (h.done ++ y ∷ [])) (sym e) (record {
        below = all-push (EquationStands (length r.trees)) made x o.below (s.within, t.within);
        is = map-append (equation_in (tree r)) made (x ∷ []) ∙ ap₂ (λ (ds : List U.Equation) (z : U.Equation). ds ++ z ∷ []) o.is (ap₂ eq s.is t.is);
      });
      is = append_assoc h.done (y ∷ []) (all_of p params n var by more others)
          ∙ (ap₂ (λ (ts us : List ℕ). h.done ++ all_of p params n var by ts us) (sym l) (sym m) ∙ h.is);
    }

append-none : (ts : List U.Equation) → ts ++ [] ≡ ts
append-none [] = refl
append-none (t ∷ ts) = ap (λ (us : List U.Equation). t ∷ us) (append-none ts)

-- where one side has none left
pub equates-left : (p q : Pool) (params : List ℕ) (n var by : ℕ) (ts us lefts rights : List ℕ) (made : List Equation) → lefts ≡ []
    → Equates p q params n var by ts us lefts rights made → StandEquations q made (all_of p params n var by ts us)
equates-left p q params n var by ts us lefts rights made e h =
    let a : h.done ++ all_of p params n var by lefts rights ≡ h.done = ap (λ (xs : List ℕ). h.done ++ all_of p params n var by xs rights) e
    ∙ append-none h.done in
    subst (StandEquations q made) (sym a ∙ h.is) h.stand

pub equates-right : (p q : Pool) (params : List ℕ) (n var by : ℕ) (ts us lefts rights : List ℕ) (made : List Equation) → rights ≡ []
    → Equates p q params n var by ts us lefts rights made → StandEquations q made (all_of p params n var by ts us)
equates-right p q params n var by ts us lefts rights made e h =
    let a : h.done ++ all_of p params n var by lefts rights ≡ h.done = ap (λ (xs : List ℕ). h.done ++ all_of p params n var by lefts xs) e
    ∙ (ap (λ (xs : List U.Equation). h.done ++ xs) (none (map (left_of p params n var by) (map (tree p) lefts))) ∙ append-none h.done) in
    subst (StandEquations q made) (sym a ∙ h.is) h.stand
  where
    none : (ts : List Term) → equations ts [] ≡ []
    none [] = refl
    none (t ∷ ts) = refl

-- all of them are those of the split, where m entries are new
pub made-all : (p : Pool) (s : S.Split) (con : ConDecl ℕ) (n by : ℕ) → n ≡ length con.args → by ≡ s.var + n
    → all_of p s.params.items n s.var by con.indices s.indices.items ≡ index_equations (split_in (tree p) s) (con_map (tree p) con)
made-all p s con n by e k =
    let m : n ≡ length (telescope_map (tree p) con.args) = e ∙ sym (length-map con.args (entry_map (tree p))) in
    ap (λ (b : ℕ). all_of p s.params.items n s.var b con.indices s.indices.items) k
    ∙ ap (λ (i : ℕ). all_of p s.params.items i s.var (s.var + i) con.indices s.indices.items) m
