-- What eliminations and forms stand for stays as the pool grows.
use Rattle.std.specs.Prelude.{◌≡◌, List, length, reverse, refl}
use Rattle.std.proofs.Common.{arith, ap}
use Rattle.core_rules.specs.Elimination.{Arg}
use Rattle.term_pool.specs.Pool.{Pool, Extends, tree}
use Rattle.term_pool.specs.Growth.{Extends-tree, Extends-length}
use Rattle.el_base.proofs.Throughout.{map-same, all-reverse, all-weaker}
use Rattle.weak_head.specs.declared.elim.Elim as E
use Rattle.weak_head.specs.declared.elim.Elim.TheVariants as V
use Rattle.weak_head.specs.declared.state.Applied as A
use Rattle.weak_head.specs.Elims.{elim_in, spine_in, Below, AllBelow}
use Rattle.weak_head.specs.States.{AppliedBelow}

module _ {p q : Pool} (g : Extends p q) where
  elim_stays : (e : E.Elim) → Below (length p.trees) e → elim_in (tree q) e ≡ elim_in (tree p) e
  elim_stays (V.Arg b u) h = ap (Arg b) (Extends-tree u g h)
  elim_stays (V.Field k) h = refl

  pub spine_stays : (xs : List E.Elim) → AllBelow (length p.trees) xs → spine_in (tree q) xs ≡ spine_in (tree p) xs
  spine_stays xs h = map-same (Below (length p.trees)) (elim_in (tree q)) (elim_in (tree p)) elim_stays (reverse xs) (all-reverse (Below (length p.trees)) xs h)

  elim_more : (e : E.Elim) → Below (length p.trees) e → Below (length q.trees) e
  elim_more (V.Arg b u) h = omega (arith, h, Extends-length g)
  elim_more (V.Field k) h = tt

  pub spine_more : (xs : List E.Elim) → AllBelow (length p.trees) xs → AllBelow (length q.trees) xs
  spine_more xs h = all-weaker (Below (length p.trees)) (Below (length q.trees)) elim_more xs h

  pub applied_more : (a : A.Applied) → AppliedBelow (length p.trees) a → AppliedBelow (length q.trees) a
  applied_more a h = (let l = h.0 in omega (arith, l, Extends-length g), spine_more a.spine.items h.1)
