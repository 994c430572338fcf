use Rattle.std.proofs.Common.{◌≡◌, ◌-◌, ◌∷◌, ◌++◌, List, length, take, drop, map, ap, ap₂, sym, subst, ◌∙◌, arith}
use Rattle.std.specs.List.{AllByRecursion}
use Rattle.core_rules.specs.Term.{Term}
use Rattle.core_rules.specs.Signature.{Branch, Context}
use Rattle.core_rules.specs.Mapped.{branch_map}
use Rattle.index_unify.specs.Unified.{context_in}
use Rattle.term_pool.specs.Pool.{tree}
use Rattle.term_pool.specs.Growth.{Extends-trans}
use Rattle.conversion.proofs.Slices.{unrolled}
use Rattle.lhs_rules.specs.Spots.{Spot, split_spot}
use Rattle.lhs_elab.specs.declared.left.Spot.{Spot as CodeSpot}
use Rattle.lhs_elab.specs.Lefts.{SpotBelow, spot_in}
use Rattle.lhs_elab.specs.Moving.{moved_by}
use Rattle.lhs_elab.proofs.BranchGrowing.{branch-larger, branch-stays}
use Rattle.lhs_elab.proofs.Growing.{context-stays, entries-larger, spot-larger}
use Rattle.lhs_elab.proofs.Moves.{move-larger, move-same}
use Rattle.lhs_elab.proofs.Splits.{spot-same, spots-below, spots-next}
use Rattle.lhs_elab.proofs.splitting.split_spots.Goals as goal

pub split_spot-requires : goal.split_spot-requires
split_spot-requires c =
    let i = c.loop-left.invariant in
    let p = c.args.pool.now in
    let q = c.loop-left.pool in
    let left = c.loop-left.left.now in
    let x = c.spot-item.result in
    let l : left ≡ x ∷ take (length left - 1) (drop 1 left) = unrolled left x c.in-len1-up.len_at_least c.spot-item.is in
    record {
      spot = spot-larger p q i.extends c.args.count c.args.count (omega arith) x (subst (AllByRecursion (SpotBelow (length p.trees) c.args.count)) l i.left).0;
      by = move-larger p q i.extends c.args.by.now c.requires.by;
      context = entries-larger p q i.extends c.args.context.now c.requires.context;
      branch = branch-larger p q i.extends (length c.args.context.now) c.args.branch.now c.requires.branch;
      long = c.requires.long;
      split = c.requires.split;
    }

pub loop-left-preserved : goal.loop-left-preserved
loop-left-preserved c =
    let i = c.loop-left.invariant in
    let p = c.args.pool.now in
    let q = c.loop-left.pool in
    let r = c.split_spot.new.pool in
    let k = c.in_ok-next.ensures in
    let made = c.loop-left.made.items in
    let new = c.push.new.self.items in
    let left = c.loop-left.left.now in
    let more = take (length left - 1) (drop 1 left) in
    let x = c.spot-item.result in
    let l : left ≡ x ∷ more = unrolled left x c.in-len1-up.len_at_least c.spot-item.is in
    let b : AllByRecursion (SpotBelow (length p.trees) c.args.count) (x ∷ more) = subst (AllByRecursion (SpotBelow (length p.trees) c.args.count)) l i.left in
    let es = c.args.context.now in
    let d = c.args.branch.now in
    let F = moved_by (tree p) c.args.by.now in
    let into : Context Term → Context Term → Branch Term → (Term → Term) → Spot → Spot = λ (h g : Context Term) (w : Branch Term) (u : Term → Term). split_spot h c.args.split c.args.new g w u in
    let one : (h : Context Term) → length h ≡ c.args.count → spot_in (tree r) c.in_ok-next.next ≡ into h (context_in p es) (branch_map (tree p) d) F (spot_in (tree p) x) =
    λ h n. k.is h n
    ∙ (ap₂ (λ (g : Context Term) (w : Branch Term). into h g w (moved_by (tree q) c.args.by.now) (spot_in (tree q) x)) (context-stays p q i.extends es c.requires.context) (branch-stays p q i.extends (length es) d c.requires.branch)
    ∙ ap₂ (λ (u : Term → Term) (s : Spot). into h (context_in p es) (branch_map (tree p) d) u s) (move-same p q i.extends c.args.by.now c.requires.by) (spot-same p q i.extends c.args.count x b.0)) in
    record {
      extends = Extends-trans i.extends k.extends;
      below = spots-below q r k.extends (length d.context) made new c.in_ok-next.next c.in_ok-push.ensures.items i.below k.below;
      left = b.1;
      is = λ h n. spots-next q r k.extends (length d.context) made new c.in_ok-next.next c.in_ok-push.ensures.items i.below (into h (context_in p es) (branch_map (tree p) d) F (spot_in (tree p) x))
          (map (into h (context_in p es) (branch_map (tree p) d) F) (map (spot_in (tree p)) more)) (map (into h (context_in p es) (branch_map (tree p) d) F) (map (spot_in (tree p)) c.args.spots.now)) (one h n)
          (ap (λ (xs : List CodeSpot). map (spot_in (tree q)) made ++ map (into h (context_in p es) (branch_map (tree p) d) F) (map (spot_in (tree p)) xs)) (sym l) ∙ i.is h n);
    }
