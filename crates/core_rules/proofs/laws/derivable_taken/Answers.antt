-- The first declarations of a derivable signature are one.
use Rattle.core_rules.proofs.Signature.Growth.{derivable-taken}
use Rattle.core_rules.proofs.laws.derivable_taken.Goals as goal

pub returns : goal.returns
returns c = λ g n r. derivable-taken g n r
