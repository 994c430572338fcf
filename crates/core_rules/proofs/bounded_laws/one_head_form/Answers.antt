-- A term under eliminations has one head form.
use Rattle.core_rules.proofs.Heads.OneAnswer.{heads_one}
use Rattle.core_rules.proofs.bounded_laws.one_head_form.Goals as goal

pub returns : goal.returns
returns c = λ g s t es v w n m d e. heads_one d e
