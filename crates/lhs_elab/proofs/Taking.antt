-- The left side with a variable more.
use Rattle.std.proofs.Common.{sym, ◌≡◌, ◌<◌, ℕ, ◌+◌, List, [], ◌∷◌, ◌++◌, length, map, ap, ap₂, subst, ◌∙◌, arith}
use Rattle.std.specs.List.{AllByRecursion}
use Rattle.std.proofs.lemmas.List.{map-append, length-append}
use Rattle.el_base.proofs.Throughout.{all-push}
use Rattle.core_rules.specs.declared.Flag.{Flag}
use Rattle.core_rules.specs.Term.{Term, Var}
use Rattle.core_rules.specs.Signature.{Entry, Origin, Context, CorePat}
use Rattle.index_unify.specs.Unified.{context_in}
use Rattle.core_rules.specs.Elimination.{Arg}
use Rattle.term_pool.specs.Pool.{Pool, Extends, StandsFor, tree}
use Rattle.term_pool.specs.Growth.{Extends-length, Extends-tree}
use Rattle.weak_head.specs.Elims.{Below}
use Rattle.lhs_rules.specs.Spots.{Spot, Taken, AtVar, name_by, inserted_by, taken}
use Rattle.lhs_elab.specs.declared.left.Spot.TheVariants as S
use Rattle.lhs_elab.specs.declared.left.Taken.{Taken as CodeTaken}
use Rattle.lhs_elab.specs.declared.left.Left.{Left as CodeLeft}
use Rattle.lhs_elab.specs.Lefts.{spot_in, taken_in, left_in, SpotBelow, LeftBelow}
use Rattle.lhs_elab.proofs.Contexts.{context-push, context-length}
use Rattle.lhs_elab.proofs.Growing.{entries-larger, spine-larger, spots-larger, context-stays, spine-stays, spots-stay}

-- l has one entry, one elimination and one spot more than k, of the ids of the pool q
pub record Pushed (q : Pool) (b : Flag) (x a t : ℕ) (o : Origin) (k l : CodeLeft) : Type 0 where
  pub argument : CodeTaken
  pub arg : ℕ
  pub context : l.context.items ≡ k.context.items ++ record { name = name_by o x; flag = b; ty = a } ∷ []
  pub spine : l.spine.items ≡ k.spine.items ++ argument ∷ []
  pub is : taken_in (tree q) argument ≡ record { it = Arg b (tree q arg); outer = length k.context.items + 1 }
  pub below : arg < length q.trees → Below (length q.trees) argument.elim
  pub stands : StandsFor q arg (Var 0)
  pub spots : l.spots.items ≡ k.spots.items ++ S.Var (length k.context.items) ∷ []
  pub pats : l.pats.items ≡ k.pats.items
  pub ty : l.ty ≡ t
  pub inserted : l.inserted ≡ k.inserted + inserted_by o

pushed-length : (es : List (Entry ℕ)) (x : Entry ℕ) → length (es ++ x ∷ []) ≡ length es + 1
pushed-length es x = omega (arith, length-append es (x ∷ []))

module _ (p q : Pool) (e : Extends p q) (b : Flag) (x a t : ℕ) (o : Origin) (k l : CodeLeft) (la : a < length p.trees) (lt : t < length p.trees) (h : LeftBelow (length p.trees) k) (u : Pushed q b x a t o k l) where
  pub pushed-below : LeftBelow (length q.trees) l
  pushed-below = record {
    context = subst (AllByRecursion (λ (y : Entry ℕ). y.ty < length q.trees)) (sym u.context) (all-push (λ (y : Entry ℕ). y.ty < length q.trees) k.context.items _ (entries-larger p q e k.context.items h.context) (omega (arith, Extends-length e, la)));
    spine = subst (AllByRecursion (λ (y : CodeTaken). Below (length q.trees) y.elim)) (sym u.spine) (all-push (λ (y : CodeTaken). Below (length q.trees) y.elim) k.spine.items u.argument (spine-larger p q e k.spine.items h.spine) (u.below u.stands.within));
    spots = subst (AllByRecursion (SpotBelow (length q.trees) (length l.context.items))) (sym u.spots)
        (all-push (SpotBelow (length q.trees) (length l.context.items)) k.spots.items (S.Var (length k.context.items)) (spots-larger p q e (length k.context.items) (length l.context.items) (omega (arith, longer)) k.spots.items h.spots) (omega (arith, longer)));
    ty = subst (λ (i : ℕ). i < length q.trees) (sym u.ty) (omega (arith, Extends-length e, lt));
  }
    where
      longer : length l.context.items ≡ length k.context.items + 1
      longer = ap (λ (es : List (Entry ℕ)). length es) u.context ∙ pushed-length k.context.items _

  pub pushed-is : left_in q l ≡ taken (left_in p k) b x (tree p a) (tree p t) o
  pushed-is = cc (contexts, spines, all-spots, ap (λ (ps : List (CorePat ℕ)). ps) u.pats, ap (tree q) u.ty ∙ Extends-tree t e lt, u.inserted)
    where
      count : length (context_in p k.context.items) ≡ length k.context.items
      count = context-length p k.context.items

      contexts : context_in q l.context.items ≡ record { name = name_by o x; flag = b; ty = tree p a } ∷ context_in p k.context.items
      contexts =
          ap (context_in q) u.context ∙ context-push q k.context.items (record { name = name_by o x; flag = b; ty = a })
          ∙ ap₂ (λ (y : Term) (ys : Context Term). record { name = name_by o x; flag = b; ty = y } ∷ ys) (Extends-tree a e la) (context-stays p q e k.context.items h.context)

      spines : map (taken_in (tree q)) l.spine.items ≡ map (taken_in (tree p)) k.spine.items ++ record { it = Arg b (Var 0); outer = length (context_in p k.context.items) + 1 } ∷ []
      spines =
          ap (map (taken_in (tree q))) u.spine ∙ map-append (taken_in (tree q)) k.spine.items (u.argument ∷ [])
          ∙ ap₂ (λ (ys : List Taken) (y : Taken). ys ++ y ∷ []) (spine-stays p q e k.spine.items h.spine)
          (u.is ∙ ap₂ (λ (y : Term) (n : ℕ). record { it = Arg b y; outer = n + 1 }) u.stands.is (sym count))

      all-spots : map (spot_in (tree q)) l.spots.items ≡ map (spot_in (tree p)) k.spots.items ++ AtVar (length (context_in p k.context.items)) ∷ []
      all-spots =
          ap (map (spot_in (tree q))) u.spots ∙ map-append (spot_in (tree q)) k.spots.items (S.Var (length k.context.items) ∷ [])
          ∙ ap₂ (λ (ys : List Spot) (n : ℕ). ys ++ AtVar n ∷ []) (spots-stay p q e (length k.context.items) k.spots.items h.spots) (sym count)
