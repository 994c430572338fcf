use Rattle.std.proofs.Common.{refl, arith, ◌+◌, max}
use Rattle.term_pool.proofs.Measured.{Extent-is}
use Rattle.term_pool.proofs.measures.Extent.joined.Goals as goal

pub returns : goal.returns
returns c = λ m n i j h k. Extent-is (1 + (m + n)) (1 + m + n) (1 + max i j) (1 + max i j) c.above.result (omega arith) refl (c.above.ensures (m + n) (max i j) (c.beside.ensures m n i j h k))
