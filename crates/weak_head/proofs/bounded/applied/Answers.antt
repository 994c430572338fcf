use Rattle.std.proofs.Common.{◌+◌, length, drop, sym, ap, ◌∙◌, arith}
use Rattle.core_rules.specs.Elimination.{elims}
use Rattle.term_pool.specs.Pool.{tree, node_tree}
use Rattle.term_pool.specs.Growth.{Extends-trans}
use Rattle.weak_head.specs.Elims.{spine_in}
use Rattle.weak_head.proofs.Spines.{none_of, in_reach, below_at}
use Rattle.weak_head.proofs.Calls.{left_none, left_some, over_tree}
use Rattle.weak_head.proofs.bounded.applied.Goals as goal

pub loop-elim-preserved : goal.loop-elim-preserved
loop-elim-preserved c =
    let i = c.loop-elim.invariant in
    let p = c.args.pool.now in
    let q = c.loop-elim.pool in
    let r = c.add.new.self in
    let xs = c.args.term.now.spine.items in
    let n = c.loop-elim.n in
    let h = in_reach xs n c.in-Some.elim c.in-Some.ensures.is in
    record {
      extends = Extends-trans i.extends c.in_ok-made.ensures.extends;
      made = c.in_ok-made.ensures.stands.within;
      within = omega (arith, h);
      is = ap (λ t. elims t (drop (n + 1) (spine_in (tree p) xs))) (c.in_ok-made.ensures.stands.is ∙ ap (node_tree (tree q)) c.over.ensures ∙ over_tree i.extends c.loop-elim.made c.in-Some.elim (below_at (length p.trees) xs n c.in-Some.elim c.in-Some.ensures.is c.requires.1))
          ∙ ap (elims (tree q c.loop-elim.made)) (sym (left_some (tree p) xs n c.in-Some.elim c.in-Some.ensures.is)) ∙ i.is;
    }

pub returns-clause-is : goal.returns-clause-is
returns-clause-is c =
    let i = c.loop-elim.invariant in
    let f = tree c.args.pool.now in
    let xs = c.args.term.now.spine.items in
    record {
      within = i.made;
      is = ap (elims (tree c.loop-elim.pool c.loop-elim.made)) (sym (left_none f xs c.loop-elim.n (sym (none_of c.elim_at.result c.in_default.not-Some) ∙ c.elim_at.ensures.is))) ∙ i.is;
    }
