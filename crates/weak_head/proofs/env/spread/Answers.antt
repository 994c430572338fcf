use Rattle.std.proofs.Common.{arith, refl}
use Rattle.weak_head.proofs.Environments.{spread_in, three_parts}
use Rattle.weak_head.proofs.env.spread.Goals as goal

pub returns-clause-is : goal.returns-clause-is
returns-clause-is c = λ f.
    let k = c.args.k in
    spread_in f k c.args.env.now c.args.parts.now c.extend_from_slice-3.new.self.items
    (three_parts c.args.env.now c.args.parts.now c.extend_from_slice-3.new.self.items c.extend_from_slice-2.new.self.items c.extend_from_slice.new.self.items c.new-all.result.items _ c.saturating_sub-2.result c.saturating_sub-3.result k
    c.in_ok-extend_from_slice-3.ensures.items c.in_ok-extend_from_slice-2.ensures.items c.in_ok-extend_from_slice.ensures.items c.new-all.ensures.items refl (omega (arith, c.saturating_sub.ensures, c.saturating_sub-2.ensures)) c.saturating_sub-3.ensures)
