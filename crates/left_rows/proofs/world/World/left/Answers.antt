use Rattle.core_rules.specs.BoundedLaws.{no_solutions}
use Rattle.core_rules.proofs.Heads.FullSolutions.{nothing_to_replace}
use Rattle.core_rules.proofs.Heads.Same.{nothing_acyclic}
use Rattle.core_terms.proofs.SignatureGrowth.{Stands-extends}
use Rattle.left_rows.proofs.world.World.left.Goals as goal

pub left_side-requires-clause-acyclic : goal.left_side-requires-clause-acyclic
left_side-requires-clause-acyclic c = nothing_acyclic

pub returns-clause-stands : goal.returns-clause-stands
returns-clause-stands c = Stands-extends c.args.self.now.pool c.left_side.new.pool c.args.self.now.signature c.left_side.ensures.extends c.requires.stands

pub returns-clause-answer : goal.returns-clause-answer
returns-clause-answer c = c.left_side.ensures.answer no_solutions nothing_to_replace.0
