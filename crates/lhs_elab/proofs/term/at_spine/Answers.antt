use Rattle.std.proofs.Common.{◌≡◌, [], ◌∷◌, ◌-◌, length, take, drop, map, refl, ap, sym, subst, ◌∙◌}
use Rattle.std.specs.List.{AllByRecursion}
use Rattle.std.specs.Prelude.{List}
use Rattle.core_rules.specs.Elimination.{elims}
use Rattle.term_pool.specs.Pool.{tree}
use Rattle.term_pool.specs.Growth.{Extends-refl, Extends-trans}
use Rattle.conversion.proofs.Slices.{unrolled, none_within}
use Rattle.weak_head.specs.Elims.{Below}
use Rattle.lhs_elab.specs.declared.left.Taken.{Taken}
use Rattle.lhs_elab.specs.Lefts.{taken_in}
use Rattle.lhs_elab.specs.Moving.{raised_to}
use Rattle.lhs_elab.proofs.Growing.{elim-larger}
use Rattle.lhs_elab.proofs.Spines.{spine-next}
use Rattle.lhs_elab.proofs.term.at_spine.Goals as goal

pub loop-left-init : goal.loop-left-init
loop-left-init c = record { extends = Extends-refl c.args.pool.now; within = c.requires.head; below = c.requires.spine; is = refl }

pub eliminated-requires-clause-by : goal.eliminated-requires-clause-by
eliminated-requires-clause-by c =
    let i = c.loop-left.invariant in
    let left = c.loop-left.left.now in
    let l : left ≡ c.taken-item.result ∷ take (length left - 1) (drop 1 left) = unrolled left c.taken-item.result c.in-len1-up.len_at_least c.taken-item.is in
    elim-larger c.args.pool.now c.loop-left.pool i.extends c.taken-item.result.elim (subst (AllByRecursion (λ (e : Taken). Below (length c.args.pool.now.trees) e.elim)) l i.below).0

pub loop-left-preserved : goal.loop-left-preserved
loop-left-preserved c =
    let i = c.loop-left.invariant in
    let p = c.args.pool.now in
    let left = c.loop-left.left.now in
    let more = take (length left - 1) (drop 1 left) in
    let l : left ≡ c.taken-item.result ∷ more = unrolled left c.taken-item.result c.in-len1-up.len_at_least c.taken-item.is in
    let below = subst (AllByRecursion (λ (e : Taken). Below (length p.trees) e.elim)) l i.below in
    let k = c.in_ok-next.ensures in
    record {
      extends = Extends-trans i.extends k.extends;
      within = k.is.within;
      below = below.1;
      is = spine-next p c.loop-left.pool c.eliminated.new.pool c.args.count c.loop-left.made c.in_ok-next.next c.taken-item.result left more (elims (tree p c.args.head) (map (raised_to c.args.count) (map (taken_in (tree p)) c.args.spine.now))) i.extends below.0 l k.is.is i.is;
    }

pub returns : goal.returns
returns c =
    let i = c.loop-left.invariant in
    let n : c.loop-left.left.now ≡ [] = none_within c.loop-left.left.now c.in_default.len_below in
    record {
      extends = i.extends;
      is = record {
        within = i.within;
        is = ap (λ (xs : List Taken). elims (tree c.loop-left.pool c.loop-left.made) (map (raised_to c.args.count) (map (taken_in (tree c.args.pool.now)) xs))) (sym n) ∙ i.is;
      };
    }
