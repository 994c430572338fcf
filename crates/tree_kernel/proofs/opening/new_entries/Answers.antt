use Rattle.std.proofs.Common.{◌≡◌, ◌<◌, ◌-◌, ◌++◌, ℕ, length, take, drop, map, arith, ap, ap₂, subst, ◌∙◌}
use Rattle.std.specs.Prelude.{List}
use Rattle.std.specs.List.{AllByRecursion}
use Rattle.core_rules.specs.Term.{Term}
use Rattle.core_rules.specs.Substitution.{shift, under}
use Rattle.core_rules.specs.Signature.{Entry}
use Rattle.core_rules.specs.TypedTree.{vars}
use Rattle.conversion.proofs.Slices.{unrolled}
use Rattle.term_pool.specs.Pool.{StandsFor, tree}
use Rattle.term_pool.specs.Placed.{items-stay}
use Rattle.term_pool.specs.Growth.{Extends-trans, Extends-length, Extends-tree}
use Rattle.tree_kernel.proofs.Entries.{enters-next}
use Rattle.tree_kernel.proofs.opening.new_entries.Goals as goal

pub loop-left-preserved : goal.loop-left-preserved
loop-left-preserved c =
    let i = c.loop-left.invariant in
    let p = c.args.pool.now in
    let l = c.loop-left.pool in
    let q = c.under_variables.new.pool in
    let r = c.under.new.pool in
    let left = c.loop-left.left.now in
    let e = c.entry-item.result in
    let n = c.loop-left.count in
    let u = unrolled left e c.in-len1-up.len_at_least c.entry-item.is in
    let b = subst (λ (es : List (Entry ℕ)). AllByRecursion (λ x. x.ty < length p.trees) es) u i.enters.below in
    let g = c.in_ok-env.ensures.extends in
    let h = c.in_ok-ty.ensures in
    let w : e.ty < length l.trees = omega (arith, b.0, Extends-length i.extends) in
    let t : tree q c.entry.inside.ty ≡ tree l e.ty = ap (λ (x : Entry ℕ). tree q x.ty) c.entry.view_is ∙ Extends-tree e.ty g w in
    let env : map (tree q) c.as_slice.result.now ≡ vars 0 n ++ map (λ t. shift t 0 n) (map (tree p) c.args.params.now) =
    ap (map (tree q)) c.as_slice.ensures.value
    ∙ (c.in_ok-env.ensures.is.is ∙ ap (λ (us : List Term). vars 0 n ++ map (λ t. shift t 0 n) us)
    (items-stay p l c.args.params.now i.extends c.requires.params)) in
    let s : StandsFor r c.in_ok-ty.ty (under (vars 0 n ++ map (λ t. shift t 0 n) (map (tree p) c.args.params.now)) (tree l e.ty)) =
    subst (StandsFor r c.in_ok-ty.ty) (ap₂ under env t) h.is in
    record {
      extends = Extends-trans i.extends (Extends-trans g h.extends);
      enters = enters-next p l r c.args.params.now c.args.entries.now left (take (length left - 1) (drop 1 left)) c.loop-left.made.items c.push.new.self.items n
          c.in-Some.next c.in_ok-ty.ty e _ i.enters i.extends (Extends-trans g h.extends) u
          (omega (arith, c.in-Some.ensures)) c.in_ok-push.ensures.items
          (ap (λ (x : Entry ℕ). record { name = x.name; flag = x.flag; ty = c.in_ok-ty.ty }) c.entry.view_is) s;
    }
