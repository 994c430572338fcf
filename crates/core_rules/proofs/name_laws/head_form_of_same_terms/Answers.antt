-- Head forms do not see names.
use Rattle.core_rules.proofs.Names.HeadForms.{heads-named}
use Rattle.core_rules.proofs.name_laws.head_form_of_same_terms.Goals as goal

pub returns : goal.returns
returns c = λ g s t u es ds w n e h d. heads-named g s t u es ds w n e h d
