use Rattle.std.proofs.Common.{◌-◌, length, take, drop}
use Rattle.conversion.proofs.Slices.{unrolled, none_within}
use Rattle.term_pool.specs.Growth.{Extends-trans}
use Rattle.tree_kernel.proofs.Lists.{raises-next, raises-all}
use Rattle.tree_kernel.proofs.environment.put_raised.Goals as goal

pub loop-left-preserved : goal.loop-left-preserved
loop-left-preserved c =
    let i = c.loop-left.invariant in
    let left = c.loop-left.left.now in
    let e = c.in_ok-raised.ensures in
    record {
      extends = Extends-trans i.extends e.extends;
      raises = raises-next c.args.pool.now c.loop-left.pool c.shift.new.pool c.args.by c.args.list.now.items c.loop-left.list.items c.push.new.self.items
          c.args.terms.now left (take (length left - 1) (drop 1 left)) c.term-item.result
          c.in_ok-raised.raised i.raises i.extends e.extends (unrolled left c.term-item.result c.in-len1-up.len_at_least c.term-item.is)
          c.in_ok-push.ensures.items e.is;
    }

pub returns-clause-is : goal.returns-clause-is
returns-clause-is c = λ ts s.
    raises-all c.args.pool.now c.loop-left.pool c.args.by c.args.list.now.items c.loop-left.list.items c.args.terms.now c.loop-left.left.now
    (none_within c.loop-left.left.now c.in_default.len_below) c.loop-left.invariant.raises ts s
