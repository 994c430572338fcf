use Rattle.std.proofs.Common.{arith}
use Rattle.el_outside.proofs.Between.{later_le, border, text_is}
use Rattle.el_outside.proofs.cursor.Cursor.up_to.Goals as goal

pub overflow_sub-len : goal.overflow_sub-len
overflow_sub-len c = later_le c.args.self.now c.args.later.now c.requires _ _ c.rest-rest.ensures c.rest.ensures

pub range-requires-clause-end_boundary : goal.range-requires-clause-end_boundary
range-requires-clause-end_boundary c = border c.args.self.now c.args.later.now c.requires _ _ c.rest-rest.ensures c.rest.ensures c.rest.utf8

pub returns : goal.returns
returns c = let e = c.range.ensures.value in let t = text_is c.args.self.now c.args.later.now c.requires _ _ c.rest-rest.ensures c.rest.ensures in grind arith
