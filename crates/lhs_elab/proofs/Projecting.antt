-- The left side with a projection more.
use Rattle.std.proofs.Common.{◌≡◌, ◌<◌, ℕ, List, [], ◌∷◌, ◌++◌, length, map, ap, ap₂, sym, subst, ◌∙◌}
use Rattle.std.specs.List.{AllByRecursion}
use Rattle.std.proofs.lemmas.List.{map-append}
use Rattle.el_base.proofs.Throughout.{all-push}
use Rattle.core_rules.specs.Term.{Term}
use Rattle.core_rules.specs.Signature.{Entry, CorePat, Signature}
use Rattle.core_rules.specs.Substitution.{under}
use Rattle.core_rules.specs.Elimination.{Field}
use Rattle.core_rules.specs.Typing.{IsField, field_env}
use Rattle.term_pool.specs.Pool.{Pool, Extends, StandsFor, tree}
use Rattle.weak_head.specs.Elims.{Below}
use Rattle.weak_head.specs.declared.elim.Elim.TheVariants as V
use Rattle.index_unify.specs.Unified.{context_in}
use Rattle.lhs_rules.specs.Spots.{Taken}
use Rattle.lhs_elab.specs.declared.left.Taken.{Taken as CodeTaken}
use Rattle.lhs_elab.specs.declared.left.Left.{Left as CodeLeft}
use Rattle.lhs_elab.specs.Lefts.{spot_in, taken_in, left_in, SpotBelow, LeftBelow}
use Rattle.lhs_elab.proofs.Contexts.{context-length}
use Rattle.lhs_elab.proofs.Growing.{left-larger, context-stays, spine-stays, spots-stay}

-- l has the projection of field h at its end, and the type t
pub record Projects (h t : ℕ) (k l : CodeLeft) : Type 0 where
  pub context : l.context.items ≡ k.context.items
  pub spine : l.spine.items ≡ k.spine.items ++ record { «elim» = V.Field h; outer = length k.context.items } ∷ []
  pub spots : l.spots.items ≡ k.spots.items
  pub pats : l.pats.items ≡ k.pats.items
  pub ty : l.ty ≡ t
  pub inserted : l.inserted ≡ k.inserted

module _ (p q : Pool) (e : Extends p q) (h t : ℕ) (k l : CodeLeft) (b : LeftBelow (length p.trees) k) (u : Projects h t k l) where
  pub projects-below : t < length q.trees → LeftBelow (length q.trees) l
  projects-below n =
      let larger = left-larger p q e k b in
      record {
        context = subst (AllByRecursion (λ (y : Entry ℕ). y.ty < length q.trees)) (sym u.context) larger.context;
        spine = subst (AllByRecursion (λ (y : CodeTaken). Below (length q.trees) y.elim)) (sym u.spine) (all-push (λ (y : CodeTaken). Below (length q.trees) y.elim) k.spine.items (record { «elim» = V.Field h; outer = length k.context.items }) larger.spine tt);
        spots = subst (λ (es : List (Entry ℕ)). AllByRecursion (SpotBelow (length q.trees) (length es)) l.spots.items) (sym u.context) (subst (AllByRecursion (SpotBelow (length q.trees) (length k.context.items))) (sym u.spots) larger.spots);
        ty = subst (λ (i : ℕ). i < length q.trees) (sym u.ty) n;
      }

  pub projects-is : left_in q l ≡ record (left_in p k) { spine = (left_in p k).spine ++ record { it = Field h; outer = length (left_in p k).context } ∷ []; ty = tree q t }
  projects-is =
      let contexts : context_in q l.context.items ≡ context_in p k.context.items = ap (context_in q) u.context ∙ context-stays p q e k.context.items b.context in
      let spines : map (taken_in (tree q)) l.spine.items ≡ map (taken_in (tree p)) k.spine.items ++ record { it = Field h; outer = length (context_in p k.context.items) } ∷ [] =
      ap (map (taken_in (tree q))) u.spine ∙ map-append (taken_in (tree q)) k.spine.items (record { «elim» = V.Field h; outer = length k.context.items } ∷ [])
      ∙ ap₂ (λ (ys : List Taken) (n : ℕ). ys ++ record { it = Field h; outer = n } ∷ []) (spine-stays p q e k.spine.items b.spine) (sym (context-length p k.context.items)) in
      let all-spots : map (spot_in (tree q)) l.spots.items ≡ map (spot_in (tree p)) k.spots.items = ap (map (spot_in (tree q))) u.spots ∙ spots-stay p q e (length k.context.items) k.spots.items b.spots in
      cc (contexts, spines, all-spots, ap (λ (ps : List (CorePat ℕ)). ps) u.pats, ap (tree q) u.ty, u.inserted)

-- the type of a field, of the same term at the same parameters
pub field-as : (g h : Signature Term) (q : Pool) (t k : ℕ) (us vs : List Term) (a b : Term) → h ≡ g → us ≡ vs → a ≡ b
    → ((is : IsField h k) → StandsFor q t (under (field_env h k is us a) is.entry.ty)) → (is : IsField g k) → StandsFor q t (under (field_env g k is vs b) is.entry.ty)
field-as g h q t k us vs a b e f n s =
    subst (λ (i : Signature Term). (is : IsField i k) → StandsFor q t (under (field_env i k is vs b) is.entry.ty)) e
    (subst (λ (ws : List Term). (is : IsField h k) → StandsFor q t (under (field_env h k is ws b) is.entry.ty)) f
    (subst (λ (c : Term). (is : IsField h k) → StandsFor q t (under (field_env h k is us c) is.entry.ty)) n s))
