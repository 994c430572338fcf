-- The steps are counted in turn.
use Rattle.core_rules.proofs.Heads.Counted.{doubled}
use Rattle.core_rules.proofs.bounded_examples.shared_term_in_four_steps.Goals as goal

pub returns : goal.returns
returns c = doubled
