use Rattle.std.proofs.Common.{arith}
use Rattle.tree_cases.proofs.Standing.{stands_longer}
use Rattle.tree_cases.proofs.rows.answer.Goals as goal

pub declare-requires-clause-stands : goal.declare-requires-clause-stands
declare-requires-clause-stands c = stands_longer c.args.world.now.pool c.declaration.new.pool c.args.world.now.sig (omega arith) c.requires
