-- One answer.
use Rattle.std.proofs.Common.{◌∙◌, sym}
use Rattle.core_rules.specs.UnifierAnswers.{answers}
use Rattle.cover_rules.proofs.One.{cover_one}
use Rattle.cover_rules.proofs.laws.one_cover.Goals as goal

pub returns : goal.returns
returns c = λ g s fuel u f qs n v w a b. cover_one g s fuel (answers u) (λ c es v w a b. a ∙ sym b) f qs a b
