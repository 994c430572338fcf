-- The left side with a constructor for a variable.
use Rattle.std.proofs.Common.{◌≡◌, ◌<◌, ◌+◌, ℕ, List, [], ◌++◌, length, map, ap, ap₂, sym, subst, ◌∙◌, arith}
use Rattle.std.specs.List.{AllByRecursion}
use Rattle.std.proofs.lemmas.List.{length-map}
use Rattle.core_rules.specs.Term.{Term}
use Rattle.core_rules.specs.Signature.{Branch, Context, CorePat, Entry, Telescope, onto}
use Rattle.core_rules.specs.Mapped.{AllEntries, branch_map, entry_map, telescope_map}
use Rattle.core_rules.specs.Substitution.{under}
use Rattle.core_rules.specs.TypedTree.{Splitting, into, new_con}
use Rattle.declared_types.proofs.Grown.{telescope-stays}
use Rattle.term_pool.specs.Pool.{Pool, Extends, tree}
use Rattle.term_pool.specs.Growth.{Extends-length, Extends-tree, Extends-trans}
use Rattle.index_unify.specs.Unified.{context_in}
use Rattle.weak_head.specs.Elims.{Below}
use Rattle.lhs_rules.specs.Spots.{Left, branch_spots, put, split_elim, split_spot}
use Rattle.lhs_elab.specs.declared.left.Left.{Left as CodeLeft}
use Rattle.lhs_elab.specs.declared.left.Spot.{Spot as CodeSpot}
use Rattle.lhs_elab.specs.declared.left.Taken.{Taken as CodeTaken}
use Rattle.lhs_elab.specs.declared.moving.Move.{Move}
use Rattle.lhs_elab.specs.Branches.{IsBranch}
use Rattle.lhs_elab.specs.Lefts.{LeftBelow, SpotBelow, left_in, spot_in, taken_in}
use Rattle.lhs_elab.specs.Moving.{moved_by, put_by, taken_into}
use Rattle.lhs_elab.proofs.Contexts.{context-length}
use Rattle.lhs_elab.proofs.Growing.{entries-larger, spine-larger, spine-stays}

-- what holds for the rules' own terms
pub put-is : (l : Left) (s : Splitting) (k n hidden m : ℕ) (es : Telescope Term) (d : Context Term) (b : Branch Term) (E V : List Term) → m ≡ length es → E ≡ into s.var (length s.context) (length es) (new_con n s.params es) → V ≡ b.values
    → put_by l k m hidden d b (λ t. under V (under E t)) ≡ put l s k n es hidden d b
put-is l s k n hidden m es d b E V x e v =
    ap₂ (λ (E V : List Term). put_by l k m hidden d b (λ t. under V (under E t))) e v
    ∙ ap (λ (m : ℕ). put_by l k m hidden d b (λ t. under b.values (under (into s.var (length s.context) (length es) (new_con n s.params es)) t))) x

-- l is k with this spine, these spots, this context and this type
pub record Puts (k l : CodeLeft) (context : List (Entry ℕ)) (spine : List CodeTaken) (spots : List CodeSpot) (t hidden : ℕ) : Type 0 where
  pub context_is : l.context.items ≡ context
  pub spine_is : l.spine.items ≡ spine
  pub spots_is : l.spots.items ≡ spots
  pub pats : l.pats.items ≡ k.pats.items
  pub ty : l.ty ≡ t
  pub inserted : l.inserted ≡ k.inserted + hidden

-- through the pools p, q (the type), v (the spine), w (the old spots) and z (all spots)
module _ (p q v w z : Pool) (pq : Extends p q) (qv : Extends q v) (vw : Extends v w) (wz : Extends w z) (k l : CodeLeft) (h : LeftBelow (length p.trees) k)
    (split new hidden count kept t : ℕ) (by : Move) (es : List (Entry ℕ)) (b : Branch ℕ) (spine : List CodeTaken) (old spots : List CodeSpot) (u : Puts k l b.context spine spots t hidden)
    (n : count ≡ length k.context.items) (i : IsBranch (length p.trees) (length es) b) where
  pz : Extends p z
  pz = Extends-trans pq (Extends-trans qv (Extends-trans vw wz))

  pub puts-below : AllByRecursion (λ (e : CodeTaken). Below (length v.trees) e.elim) spine → AllByRecursion (SpotBelow (length z.trees) (length b.context)) spots → t < length q.trees → LeftBelow (length z.trees) l
  puts-below a d m = record {
    context = subst (AllEntries (λ i. i < length z.trees)) (sym u.context_is) (entries-larger p z pz b.context i.context);
    spine = subst (AllByRecursion (λ (e : CodeTaken). Below (length z.trees) e.elim)) (sym u.spine_is) (spine-larger v z (Extends-trans vw wz) spine a);
    spots = subst (λ (xs : List (Entry ℕ)). AllByRecursion (SpotBelow (length z.trees) (length xs)) l.spots.items) (sym u.context_is) (subst (AllByRecursion (SpotBelow (length z.trees) (length b.context))) (sym u.spots_is) d);
    ty = subst (λ (j : ℕ). j < length z.trees) (sym u.ty) (let e = Extends-length (Extends-trans qv (Extends-trans vw wz)) in omega (arith, e, m));
  }

  abbrev F : Term → Term
  F = moved_by (tree p) by

  abbrev C : Context Term
  C = context_in p k.context.items

  abbrev D : Context Term
  D = context_in p es

  abbrev B : Branch Term
  B = branch_map (tree p) b

  pub puts-is : t < length q.trees → tree q t ≡ F (tree p k.ty) → kept ≡ length b.context
      → AllByRecursion (λ (e : CodeTaken). Below (length v.trees) e.elim) spine → map (taken_in (tree v)) spine ≡ map (taken_into F count kept) (map (taken_in (tree p)) k.spine.items)
      → map (spot_in (tree z)) spots ≡ map (split_spot C split new D B F) (map (spot_in (tree p)) k.spots.items) ++ branch_spots D B split new
      → left_in z l ≡ put_by (left_in p k) split new hidden D B F
  puts-is m ty kn a sp st =
      let contexts : context_in z l.context.items ≡ onto B.context [] = ap (context_in z) u.context_is ∙ ap (λ (xs : Telescope Term). onto xs []) (telescope-stays p z b.context pz i.context) in
      let cl : count ≡ length C = omega (arith, n, context-length p k.context.items) in
      let kl : kept ≡ length B.context = omega (arith, kn, telescope-long) in
      let spines : map (taken_in (tree z)) l.spine.items ≡ map (split_elim C B F) (map (taken_in (tree p)) k.spine.items) =
      ap (map (taken_in (tree z))) u.spine_is ∙ (spine-stays v z (Extends-trans vw wz) spine a ∙ (sp ∙ ap₂ (λ (x y : ℕ). map (taken_into F x y) (map (taken_in (tree p)) k.spine.items)) cl kl)) in
      let all-spots : map (spot_in (tree z)) l.spots.items ≡ map (split_spot C split new D B F) (map (spot_in (tree p)) k.spots.items) ++ branch_spots D B split new = ap (map (spot_in (tree z))) u.spots_is ∙ st in
      let types : tree z l.ty ≡ F (tree p k.ty) = ap (tree z) u.ty ∙ (Extends-tree t (Extends-trans qv (Extends-trans vw wz)) m ∙ ty) in
      cc (contexts, spines, all-spots, ap (λ (ps : List (CorePat ℕ)). ps) u.pats, types, u.inserted)
    where
      telescope-long : length (telescope_map (tree p) b.context) ≡ length b.context
      telescope-long = length-map b.context (entry_map (tree p))
