-- A list made item by item, as the pool grows.
use Rattle.std.proofs.Common.{◌≡◌, ◌<◌, ℕ, List, [], ◌∷◌, ◌++◌, length, map, ap, ap₂, sym, subst, ◌∙◌, append_assoc, arith}
use Rattle.std.specs.List.{AllByRecursion}
use Rattle.std.proofs.lemmas.List.{map-append}
use Rattle.el_base.proofs.Throughout.{all-push, all-weaker, map-same}
use Rattle.core_rules.specs.Term.{Term}
use Rattle.core_rules.specs.Signature.{Entry}
use Rattle.core_rules.specs.Mapped.{AllEntries, entry_map, telescope_map}
use Rattle.term_pool.specs.Pool.{Pool, Extends, tree}
use Rattle.term_pool.specs.Growth.{Extends-length, Extends-tree}
use Rattle.core_rules.specs.Unification as U
use Rattle.core_rules.specs.Unification.{eq}
use Rattle.index_unify.specs.declared.equation.Equation.{Equation}
use Rattle.index_unify.specs.Unified.{EquationStands, equation_in, equations_in}

-- where what P holds of becomes what Q holds of, and stands for the same
module _ {X Y : Type 0} (P Q : X → Type 0) (f g : X → Y) (larger : (x : X) → P x → Q x) (same : (x : X) → P x → g x ≡ f x) (made new : List X) (v : X) (n : new ≡ made ++ v ∷ []) (h : AllByRecursion P made) where
  pub all-next : Q v → AllByRecursion Q new
  all-next l = subst (AllByRecursion Q) (sym n) (all-push Q made v (all-weaker P Q larger made h) l)

  pub map-next : (y : Y) (rest end : List Y) → g v ≡ y → map f made ++ y ∷ rest ≡ end → map g new ++ rest ≡ end
  map-next y rest end is e =
      ap (λ (xs : List X). map g xs ++ rest) n
      ∙ (ap (λ (ys : List Y). ys ++ rest) (map-append g made (v ∷ []) ∙ ap₂ (λ (ys : List Y) (z : Y). ys ++ z ∷ []) (map-same P g f same made h) is)
      ∙ (append_assoc (map f made) (y ∷ []) rest ∙ e))

module _ (q r : Pool) (e : Extends q r) where
  id-larger : (i : ℕ) → i < length q.trees → i < length r.trees
  id-larger i l = omega (arith, Extends-length e, l)

  entry-larger : (x : Entry ℕ) → x.ty < length q.trees → x.ty < length r.trees
  entry-larger x l = omega (arith, Extends-length e, l)

  entry-same : (x : Entry ℕ) → x.ty < length q.trees → entry_map (tree r) x ≡ entry_map (tree q) x
  entry-same x l = ap (λ (t : Term). record { name = x.name; flag = x.flag; ty = t }) (Extends-tree x.ty e l)

  module _ (made new : List ℕ) (v : ℕ) (n : new ≡ made ++ v ∷ []) (h : AllByRecursion (λ i. i < length q.trees) made) where
    pub ids-next : v < length r.trees → AllByRecursion (λ i. i < length r.trees) new
    ids-next = all-next (λ i. i < length q.trees) (λ i. i < length r.trees) (tree q) (tree r) id-larger (λ i l. Extends-tree i e l) made new v n h

    pub trees-next : (t : Term) (rest end : List Term) → tree r v ≡ t → map (tree q) made ++ t ∷ rest ≡ end → map (tree r) new ++ rest ≡ end
    trees-next = map-next (λ i. i < length q.trees) (λ i. i < length r.trees) (tree q) (tree r) id-larger (λ i l. Extends-tree i e l) made new v n h

  module _ (made new : List (Entry ℕ)) (v : Entry ℕ) (n : new ≡ made ++ v ∷ []) (h : AllEntries (λ i. i < length q.trees) made) where
    pub entries-next : v.ty < length r.trees → AllEntries (λ i. i < length r.trees) new
    entries-next = all-next (λ (x : Entry ℕ). x.ty < length q.trees) (λ (x : Entry ℕ). x.ty < length r.trees) (entry_map (tree q)) (entry_map (tree r)) entry-larger entry-same made new v n h

    pub telescope-next : (x : Entry Term) (rest end : List (Entry Term)) → entry_map (tree r) v ≡ x → telescope_map (tree q) made ++ x ∷ rest ≡ end → telescope_map (tree r) new ++ rest ≡ end
    telescope-next = map-next (λ (x : Entry ℕ). x.ty < length q.trees) (λ (x : Entry ℕ). x.ty < length r.trees) (entry_map (tree q)) (entry_map (tree r)) entry-larger entry-same made new v n h

  equation-larger : (x : Equation) → EquationStands (length q.trees) x → EquationStands (length r.trees) x
  equation-larger x l = (omega (arith, Extends-length e, l.0), omega (arith, Extends-length e, l.1))

  equation-same : (x : Equation) → EquationStands (length q.trees) x → equation_in (tree r) x ≡ equation_in (tree q) x
  equation-same x l = ap₂ eq (Extends-tree x.left e l.0) (Extends-tree x.right e l.1)

  module _ (made new : List Equation) (v : Equation) (n : new ≡ made ++ v ∷ []) (h : AllByRecursion (EquationStands (length q.trees)) made) where
    pub equations-below : EquationStands (length r.trees) v → AllByRecursion (EquationStands (length r.trees)) new
    equations-below = all-next (EquationStands (length q.trees)) (EquationStands (length r.trees)) (equation_in (tree q)) (equation_in (tree r)) equation-larger equation-same made new v n h

    pub equations-next : (x : U.Equation) (rest end : List U.Equation) → equation_in (tree r) v ≡ x → equations_in q made ++ x ∷ rest ≡ end → equations_in r new ++ rest ≡ end
    equations-next = map-next (EquationStands (length q.trees)) (EquationStands (length r.trees)) (equation_in (tree q)) (equation_in (tree r)) equation-larger equation-same made new v n h
