-- The signature keeps its pool.
use Rattle.core_terms.proofs.SignatureGrowth.{Stands-extends}
use Rattle.head_cases.proofs.world.solved_head.Goals as goal

pub returns : goal.returns
returns c = Stands-extends _ _ _ c.head.ensures.extends c.requires.stands
