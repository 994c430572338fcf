-- A typed term has no metavariable.
use Rattle.core_rules.proofs.Typing.NoMeta.{typed-no_meta}
use Rattle.core_rules.proofs.laws.typed_has_no_meta.Goals as goal

pub returns : goal.returns
returns c = λ g x t a h. typed-no_meta g h
