use Rattle.std.proofs.Common.{◌≡◌, ◌-◌, ◌∷◌, ◌++◌, List, length, take, drop, map, ap, ap₂, sym, subst, ◌∙◌}
use Rattle.std.specs.List.{AllByRecursion}
use Rattle.core_rules.specs.Term.{Term}
use Rattle.core_rules.specs.Elimination.{Elim}
use Rattle.term_pool.specs.Pool.{tree}
use Rattle.term_pool.specs.Growth.{Extends-trans}
use Rattle.conversion.proofs.Slices.{unrolled}
use Rattle.weak_head.specs.Elims.{Below}
use Rattle.lhs_rules.specs.Spots.{Taken}
use Rattle.lhs_elab.specs.declared.left.Taken.{Taken as CodeTaken}
use Rattle.lhs_elab.specs.Lefts.{taken_in}
use Rattle.lhs_elab.specs.Moving.{moved_by, taken_into}
use Rattle.lhs_elab.proofs.Growing.{elim-larger, elim-stays}
use Rattle.lhs_elab.proofs.Moves.{move-larger, move-same}
use Rattle.lhs_elab.proofs.Splits.{takens-below, takens-next}
use Rattle.lhs_elab.proofs.splitting.split_spine.Goals as goal

pub split_elim-requires-clause-by : goal.split_elim-requires-clause-by
split_elim-requires-clause-by c = move-larger c.args.pool.now c.loop-left.pool c.loop-left.invariant.extends c.args.by.now c.requires.by

pub split_elim-requires-clause-old : goal.split_elim-requires-clause-old
split_elim-requires-clause-old c =
    let i = c.loop-left.invariant in
    let left = c.loop-left.left.now in
    let l : left ≡ c.taken-item.result ∷ take (length left - 1) (drop 1 left) = unrolled left c.taken-item.result c.in-len1-up.len_at_least c.taken-item.is in
    elim-larger c.args.pool.now c.loop-left.pool i.extends c.taken-item.result.elim (subst (AllByRecursion (λ (e : CodeTaken). Below (length c.args.pool.now.trees) e.elim)) l i.left).0

pub loop-left-preserved : goal.loop-left-preserved
loop-left-preserved c =
    let i = c.loop-left.invariant in
    let p = c.args.pool.now in
    let q = c.loop-left.pool in
    let r = c.split_elim.new.pool in
    let k = c.in_ok-next.ensures in
    let made = c.loop-left.made.items in
    let new = c.push.new.self.items in
    let left = c.loop-left.left.now in
    let more = take (length left - 1) (drop 1 left) in
    let x = c.taken-item.result in
    let l : left ≡ x ∷ more = unrolled left x c.in-len1-up.len_at_least c.taken-item.is in
    let b : AllByRecursion (λ (e : CodeTaken). Below (length p.trees) e.elim) (x ∷ more) = subst (AllByRecursion (λ (e : CodeTaken). Below (length p.trees) e.elim)) l i.left in
    let into : (Term → Term) → Taken → Taken = λ (u : Term → Term). taken_into u c.args.count c.args.kept in
    let F = moved_by (tree p) c.args.by.now in
    let one : taken_in (tree r) c.in_ok-next.next ≡ into F (taken_in (tree p) x) =
    k.is ∙ ap₂ into (move-same p q i.extends c.args.by.now c.requires.by) (ap (λ (y : Elim). record { it = y; outer = x.outer }) (elim-stays p q i.extends x.elim b.0)) in
    record {
      extends = Extends-trans i.extends k.extends;
      below = takens-below q r k.extends made new c.in_ok-next.next c.in_ok-push.ensures.items i.below k.below;
      left = b.1;
      is = takens-next q r k.extends made new c.in_ok-next.next c.in_ok-push.ensures.items i.below (into F (taken_in (tree p) x)) (map (into F) (map (taken_in (tree p)) more)) (map (into F) (map (taken_in (tree p)) c.args.spine.now)) one
          (ap (λ (xs : List CodeTaken). map (taken_in (tree q)) made ++ map (into F) (map (taken_in (tree p)) xs)) (sym l) ∙ i.is);
    }
