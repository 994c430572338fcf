-- What the patterns of a left side hold in the end, pattern by pattern.
use Rattle.std.proofs.Common.{◌≡◌, ℕ, List, length, map, ap, ap₂, sym, subst, ◌∙◌, arith}
use Rattle.std.specs.List.{AllByRecursion}
use Rattle.el_base.proofs.Throughout.{all-weaker, map-same}
use Rattle.core_rules.specs.Term.{Term}
use Rattle.core_rules.specs.Signature.{Dot, Solved}
use Rattle.core_rules.specs.Mapped.{dot_map, solved_map}
use Rattle.term_pool.specs.Pool.{Pool, Extends, tree}
use Rattle.term_pool.specs.Growth.{Extends-length, Extends-trans, Extends-tree}
use Rattle.lhs_elab.specs.declared.settle.Settler.{Settler}
use Rattle.lhs_elab.specs.Lefts.{LeftBelow, left_in}
use Rattle.lhs_elab.specs.Settled.{DotBelow, IsSettling, Grows, SolvedBelow, dots_of, left_of, named_of}
use Rattle.lhs_elab.proofs.Growing.{left-larger, left-stays}

module _ (p q : Pool) (e : Extends p q) where
  solved-same : (v : Solved ℕ) → SolvedBelow (length p.trees) v → solved_map (tree q) v ≡ solved_map (tree p) v
  solved-same v l = ap₂ (λ (t u : Term). record { name = v.name; value = t; ty = u }) (Extends-tree v.value e l.0) (Extends-tree v.ty e l.1)

  dot-same : (v : Dot ℕ) → DotBelow (length p.trees) v → dot_map (tree q) v ≡ dot_map (tree p) v
  dot-same v l = ap₂ (λ (t u : Term). record { at = v.at; value = t; ty = u }) (Extends-tree v.value e l.0) (Extends-tree v.ty e l.1)

  pub solveds-stay : (vs : List (Solved ℕ)) → AllByRecursion (SolvedBelow (length p.trees)) vs → map (solved_map (tree q)) vs ≡ map (solved_map (tree p)) vs
  solveds-stay vs a = map-same (SolvedBelow (length p.trees)) (solved_map (tree q)) (solved_map (tree p)) solved-same vs a

  pub dots-stay : (vs : List (Dot ℕ)) → AllByRecursion (DotBelow (length p.trees)) vs → map (dot_map (tree q)) vs ≡ map (dot_map (tree p)) vs
  dots-stay vs a = map-same (DotBelow (length p.trees)) (dot_map (tree q)) (dot_map (tree p)) dot-same vs a

  pub solveds-larger : (vs : List (Solved ℕ)) → AllByRecursion (SolvedBelow (length p.trees)) vs → AllByRecursion (SolvedBelow (length q.trees)) vs
  solveds-larger vs a = all-weaker _ _ (λ (v : Solved ℕ) (l : SolvedBelow (length p.trees) v). (omega (arith, Extends-length e, l.0), omega (arith, Extends-length e, l.1))) vs a

  pub dots-larger : (vs : List (Dot ℕ)) → AllByRecursion (DotBelow (length p.trees)) vs → AllByRecursion (DotBelow (length q.trees)) vs
  dots-larger vs a = all-weaker _ _ (λ (v : Dot ℕ) (l : DotBelow (length p.trees) v). (omega (arith, Extends-length e, l.0), omega (arith, Extends-length e, l.1))) vs a

module _ {x y z : Settler} where
  pub settles-trans : Grows x y → Grows y z → Grows x z
  settles-trans g h = record { same_reference = h.same_reference ∙ g.same_reference; extends = Extends-trans g.extends h.extends; left = h.left ∙ g.left; same_named = h.same_named ∙ g.same_named; same_dots = h.same_dots ∙ g.same_dots }

module _ (x y : Settler) (r : IsSettling x) (g : Grows x y) where
  pub settled-left : left_of y ≡ left_of x
  settled-left = ap (left_in y.pool.now) g.left ∙ left-stays x.pool.now y.pool.now g.extends x.left.now r.left

  module _ (n : y.named.now ≡ x.named.now) (d : y.dots.now ≡ x.dots.now) where
    pub named-kept : named_of y ≡ named_of x
    named-kept = ap (λ v. map (solved_map (tree y.pool.now)) v.items) n ∙ solveds-stay x.pool.now y.pool.now g.extends x.named.now.items r.named

    pub dots-kept : dots_of y ≡ dots_of x
    dots-kept = ap (λ v. map (dot_map (tree y.pool.now)) v.items) d ∙ dots-stay x.pool.now y.pool.now g.extends x.dots.now.items r.dots

    pub settling-kept : IsSettling y
    settling-kept = record {
      left = subst (λ l. LeftBelow (length y.pool.now.trees) l) (sym g.left) (left-larger x.pool.now y.pool.now g.extends x.left.now r.left);
      named = subst (λ v. AllByRecursion (SolvedBelow (length y.pool.now.trees)) v.items) (sym n) (solveds-larger x.pool.now y.pool.now g.extends x.named.now.items r.named);
      dots = subst (λ v. AllByRecursion (DotBelow (length y.pool.now.trees)) v.items) (sym d) (dots-larger x.pool.now y.pool.now g.extends x.dots.now.items r.dots);
    }
