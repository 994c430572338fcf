-- A head form is convertible to its term.
use Rattle.core_rules.proofs.Heads.HeadConverts.{heads_convert}
use Rattle.core_rules.specs.InScope.{any_meta}
use Rattle.core_rules.proofs.Heads.Regular.{regular_fit}
use Rattle.core_rules.proofs.bounded_laws.head_form_converts.Goals as goal

pub returns : goal.returns
returns c = λ g s f t es w n x i r d. heads_convert g s f t es w n x (regular_fit g any_meta i r) d
