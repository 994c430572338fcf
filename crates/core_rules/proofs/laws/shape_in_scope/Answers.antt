-- Each family of a signature in scope has its shape.
use Rattle.core_rules.proofs.Typing.Closed.{have-shape}
use Rattle.core_rules.proofs.laws.shape_in_scope.Goals as goal

pub returns : goal.returns
returns c = λ g s. have-shape g s
