-- A good declaration has no metavariable but in its clauses.
use Rattle.core_rules.proofs.Typing.NoMeta.{good-no_meta}
use Rattle.core_rules.proofs.laws.good_has_no_meta.Goals as goal

pub returns : goal.returns
returns c = λ g d h k. good-no_meta g d h k
