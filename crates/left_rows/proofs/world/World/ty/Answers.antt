use Rattle.core_terms.proofs.SignatureGrowth.{Stands-extends}
use Rattle.left_rows.proofs.world.World.ty.Goals as goal

pub returns-clause-stands : goal.returns-clause-stands
returns-clause-stands c = Stands-extends c.args.self.now.pool c.type_written.new.pool c.args.self.now.signature c.in_ok-ty.ensures.extends c.requires.stands
