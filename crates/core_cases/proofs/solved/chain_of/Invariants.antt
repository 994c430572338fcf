use Rattle.std.proofs.Common.{◌<◌, length}
use Rattle.term_pool.specs.Pool.{Extends}
use Rattle.core_cases.proofs.solved.chain_of.Given as goal

abbrev pub invariant-loop : goal.invariant-loop
invariant-loop l = record { extends : Extends l.fn.pool l.pool; within : l.term < length l.pool.trees; arg : l.fn.arg < length l.pool.trees }
