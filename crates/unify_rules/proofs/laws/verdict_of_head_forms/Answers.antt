-- The verdict on head forms.
use Rattle.unify_rules.proofs.Again.{verdict_again}
use Rattle.unify_rules.proofs.SameHeads.{shown_same}
use Rattle.unify_rules.proofs.laws.verdict_of_head_forms.Goals as goal

pub returns : goal.returns
returns c = λ g s fuel depth t u v w n m q a b. ((λ h. shown_same g s fuel t u v w n m a b h), (λ y. verdict_again g s fuel depth t u v w n m q a b y))
