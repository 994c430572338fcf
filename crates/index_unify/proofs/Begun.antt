-- The types and the equations before the first turn, as far as they are made.
use Rattle.std.specs.Prelude.{◌≡◌, ◌<◌, ◌≤◌, ℕ, ◌+◌, List, [], ◌∷◌, ◌++◌, length, map, reverse, Option, None, refl}
use Rattle.std.specs.List.{AllByRecursion}
use Rattle.std.proofs.Common.{sym, ap, ap₂, ◌∙◌, subst, arith, length-append}
use Rattle.std.proofs.lemmas.List.{append_assoc, map-append}
use Rattle.el_base.proofs.Lists.{reverse_push}
use Rattle.el_base.proofs.Throughout.{all-front, all-last, all-push, all-reverse}
use Rattle.core_rules.specs.Term.{Term, AllMetas}
use Rattle.core_rules.specs.Substitution.{replace, shift}
use Rattle.core_rules.specs.Signature.{Entry, Telescope}
use Rattle.core_rules.specs.Mapped.{AllEntries, telescope_map}
use Rattle.core_rules.specs.InScope.{IsAcyclic}
use Rattle.core_rules.specs.Heads.{Solutions}
use Rattle.core_rules.specs.BoundedLaws.{IsFull}
use Rattle.core_rules.specs.Unification as U
use Rattle.core_rules.specs.Unification.{whole_types}
use Rattle.term_pool.specs.Pool.{Pool, Extends, StandsFor, tree}
use Rattle.term_pool.specs.Growth.{Extends-refl, Extends-trans, Extends-length, Extends-tree}
use Rattle.core_terms.specs.Solutions.{IsInstance}
use Rattle.index_unify.specs.declared.equation.Equation.{Equation}
use Rattle.index_unify.specs.Unified.{context_in, equation_in, equations_in, EquationStands}
use Rattle.index_unify.specs.State.{AllSettled, EquationSettled, equations_of, replaced}
use Rattle.index_unify.proofs.Grown.{IdStands, id_in, ids, equations, grown, pushed, Made}
use Rattle.index_unify.proofs.Branches.{context_push}
use Rattle.index_unify.proofs.Ruled.{instance_settled}
use Rattle.index_unify.proofs.Settled.{same_settled}

-- the types of the entries after those that are left, which stand inside them
pub record Types (s : Solutions) (p q : Pool) (entries left : Telescope ℕ) (inside : ℕ) (types : List ℕ) : Type 0 where
  pub extends : Extends p q
  pub few : length left ≤ length entries
  pub below : AllEntries (λ i. i < length p.trees) left
  pub within : AllByRecursion (λ i. i < length q.trees) types
  pub is : (f : ℕ → Option Term) → IsFull s f → map (tree q) types ++ whole_types inside (telescope_map (replace f) (context_in p left)) ≡ whole_types 0 (telescope_map (replace f) (context_in p entries))

pub types-none : (s : Solutions) (p : Pool) (entries : Telescope ℕ) → AllEntries (λ i. i < length p.trees) entries → Types s p p entries entries 0 []
types-none s p entries h = record { extends = Extends-refl p; few = omega arith; below = h; within = tt; is = λ f x. refl }

module _ (s : Solutions) (p q r v : Pool) (entries outer : Telescope ℕ) (e : Entry ℕ) (inside ty whole : ℕ) (types more : List ℕ) where
  pub types-more : Types s p q entries (outer ++ e ∷ []) inside types → Extends q r → IsInstance r s (tree q e.ty) ty → Extends r v → StandsFor v whole (shift (tree r ty) 0 (inside + 1)) → more ≡ types ++ whole ∷ [] → Types s p v entries outer (inside + 1) more
  types-more h g i k w d = record {
    extends = Extends-trans h.extends qv;
    few = omega (arith, h.few, length-append outer (e ∷ []));
    below = all-front (λ e. e.ty < length p.trees) outer e h.below;
    within = (made map_types refl).within;
    is = λ f x. (
        let one : shift (tree r ty) 0 (inside + 1) ≡ shift (replace f (tree p e.ty)) 0 (inside + 1) = ap (λ t. shift t 0 (inside + 1)) (i.is f x ∙ ap (replace f) (Extends-tree e.ty h.extends (all-last (λ e. e.ty < length p.trees) outer e h.below))) in
        let rest = whole_types (inside + 1) (telescope_map (replace f) (context_in p outer)) in
        ap (λ ts. ts ++ rest) ((made (map_types) refl).is ∙ ap (λ t. map_types ++ t ∷ []) one)
        ∙ (append_assoc map_types (shift (replace f (tree p e.ty)) 0 (inside + 1) ∷ []) rest
        ∙ (ap (λ c. map_types ++ whole_types inside (telescope_map (replace f) c)) (sym (context_push p outer e)) ∙ h.is f x))
        );
  }
    where
      qv : Extends q v
      qv = Extends-trans g k

      map_types : List Term
      map_types = map (tree q) types

      made : (ts : List Term) → map (tree q) types ≡ ts → Made IdStands id_in v more (ts ++ shift (tree r ty) 0 (inside + 1) ∷ [])
      made ts z = pushed IdStands id_in ids q v qv types more ts (ts ++ shift (tree r ty) 0 (inside + 1) ∷ []) whole (shift (tree r ty) 0 (inside + 1)) (record { within = h.within; is = z }) w.within w.is d refl

pub types-all : (s : Solutions) (p q : Pool) (entries : Telescope ℕ) (inside : ℕ) (types : List ℕ) → Types s p q entries [] inside types → (f : ℕ → Option Term) → IsFull s f → map (tree q) types ≡ whole_types 0 (telescope_map (replace f) (context_in p entries))
types-all s p q entries inside types h f x = sym (nothing (map (tree q) types)) ∙ h.is f x
  where
    nothing : {X : Type 0} (xs : List X) → xs ++ [] ≡ xs
    nothing [] = refl
    nothing (x ∷ xs) = ap (λ r. x ∷ r) (nothing xs)

-- the equations after those that are left
pub record Instances (s : Solutions) (p q : Pool) (es rest ds : List Equation) : Type 0 where
  pub extends : Extends p q
  pub few : length rest ≤ length es
  pub below : AllByRecursion (EquationStands (length p.trees)) rest
  pub within : AllByRecursion (EquationStands (length q.trees)) ds
  pub settled : AllSettled s q ds
  pub is : (f : ℕ → Option Term) → IsFull s f → map (replaced f) (equations_in p rest) ++ equations_of q ds ≡ map (replaced f) (equations_in p es)

pub instances-none : (s : Solutions) (p : Pool) (es : List Equation) → AllByRecursion (EquationStands (length p.trees)) es → Instances s p p es es []
instances-none s p es h = record { extends = Extends-refl p; few = omega arith; below = h; within = tt; settled = tt; is = λ f x. nothing (map (replaced f) (equations_in p es)) }
  where
    nothing : {X : Type 0} (xs : List X) → xs ++ [] ≡ xs
    nothing [] = refl
    nothing (x ∷ xs) = ap (λ r. x ∷ r) (nothing xs)

-- the same equations in a larger pool
stays : (q v : Pool) (ds : List Equation) → Extends q v → AllByRecursion (EquationStands (length q.trees)) ds → map (equation_in (tree v)) ds ≡ map (equation_in (tree q)) ds
stays q v ds g h = (grown EquationStands equation_in equations q v g ds (map (equation_in (tree q)) ds) (record { within = h; is = refl })).is

stays_of : (q v : Pool) (ds : List Equation) → Extends q v → AllByRecursion (EquationStands (length q.trees)) ds → equations_of v ds ≡ equations_of q ds
stays_of q v ds g h = stays q v (reverse ds) g (all-reverse (EquationStands (length q.trees)) ds h)

module _ (s : Solutions) (a : IsAcyclic s) (p q r v : Pool) (es before ds more : List Equation) (e : Equation) (l m : ℕ) where
  abbrev made : Equation
  made = record { left = l; right = m }

  pub instances-more : Instances s p q es (before ++ e ∷ []) ds → Extends q r → IsInstance r s (tree q e.left) l → Extends r v → IsInstance v s (tree r e.right) m → more ≡ ds ++ made ∷ [] → Instances s p v es before more
  instances-more h g i k j d = subst (Instances s p v es before) (sym d) (record {
    extends = Extends-trans h.extends qv;
    few = omega (arith, h.few, length-append before (e ∷ []));
    below = all-front (EquationStands (length p.trees)) before e h.below;
    within = (pushed EquationStands equation_in equations q v qv ds (ds ++ made ∷ []) (map (equation_in (tree q)) ds) (map (equation_in (tree q)) ds ++ equation_in (tree v) made ∷ []) made (equation_in (tree v) made) (record { within = h.within; is = refl }) (omega (arith, i.within, Extends-length k), j.within) refl refl refl).within;
    settled =
        all-push (EquationSettled s v) ds made (same_settled s q v ds (stays q v ds qv h.within) h.settled)
        (subst (λ t. AllMetas (λ m. s m ≡ None) t) (sym (Extends-tree l k i.within)) (instance_settled s a r (tree q e.left) l i), instance_settled s a v (tree r e.right) m j);
    is = λ f x. (
        let b : e.left < length p.trees = last.0 in
        let c : e.right < length p.trees = last.1 in
        let le : tree v l ≡ replace f (tree p e.left) = Extends-tree l k i.within ∙ (i.is f x ∙ ap (replace f) (Extends-tree e.left h.extends b)) in
        let re : tree v m ≡ replace f (tree p e.right) = j.is f x ∙ ap (replace f) (Extends-tree e.right (Extends-trans h.extends g) c) in
        let front = map (replaced f) (equations_in p before) in
        ap (λ ts. front ++ ts) (ap (map (equation_in (tree v))) (reverse_push ds made) ∙ ap₂ (λ y ys. y ∷ ys) (ap₂ U.eq le re) (stays_of q v ds qv h.within))
        ∙ (sym (append_assoc front (replaced f (equation_in (tree p) e) ∷ []) (equations_of q ds))
        ∙ (ap (λ ts. ts ++ equations_of q ds) (sym (ap (map (replaced f)) (map-append (equation_in (tree p)) before (e ∷ [])) ∙ map-append (replaced f) (equations_in p before) (equation_in (tree p) e ∷ []))) ∙ h.is f x))
        );
  })
    where
      qv : Extends q v
      qv = Extends-trans g k

      last : EquationStands (length p.trees) e
      last = all-last (EquationStands (length p.trees)) before e h.below

pub instances-all : (s : Solutions) (p q : Pool) (es ds : List Equation) → Instances s p q es [] ds → (f : ℕ → Option Term) → IsFull s f → equations_of q ds ≡ map (replaced f) (equations_in p es)
instances-all s p q es ds h f x = h.is f x
