use Rattle.std.specs.Prelude.{◌≡◌, ◌+◌}
use Rattle.std.proofs.Common.{◌∙◌, ap, subst, rules}
use Rattle.core_rules.specs.Substitution.{shift, subst as substituted}
use Rattle.term_pool.specs.Pool.{tree, StandsFor}
use Rattle.term_pool.specs.Growth.{Extends-tree}
use Rattle.index_unify.proofs.Puts.{put_is}
use Rattle.index_unify.proofs.put.put.Goals as goal

pub returns-clause-is : goal.returns-clause-is
returns-clause-is c =
    let p = c.args.pool.now in
    let q = c.shift.new.pool in
    let x = c.args.solution.now.var in
    let v = c.args.solution.now.value in
    let t = tree p c.args.t in
    let next : c.in-Some.next ≡ c.args.solution.now.var + 1 = search rules in
    let risen = ap (λ w. substituted w x (tree q v)) c.in_ok-risen.ensures.is.is in
    let value = ap (λ u. substituted (shift t c.in-Some.next 1) x u) (Extends-tree v c.shift.ensures.extends c.requires.value) in
    let one = ap (λ n. substituted (shift t n 1) x (tree p v)) next in
    subst (StandsFor c.subst.new.pool c.in_ok-made.made) (risen ∙ (value ∙ (one ∙ put_is x (tree p v) t))) c.in_ok-made.ensures.is
