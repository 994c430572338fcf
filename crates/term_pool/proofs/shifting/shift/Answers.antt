use Rattle.term_pool.proofs.Shifts.{shifted-none}
use Rattle.term_pool.proofs.shifting.shift.Goals as goal

pub returns-then-by-eq0-clause-is : goal.returns-then-by-eq0-clause-is
returns-then-by-eq0-clause-is c = shifted-none c.args.pool.now c.args.t c.args.from c.args.by c.if-by-eq0.true c.requires
