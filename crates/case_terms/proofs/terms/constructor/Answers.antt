use Rattle.std.proofs.Common.{subst, sym}
use Rattle.term_pool.specs.Lists.{IsList, list_is}
use Rattle.case_terms.proofs.terms.constructor.Goals as goal

pub add-requires : goal.add-requires
add-requires c = record { within = c.in_ok-params.ensures.stands.within; list = subst IsList (sym c.in_ok-params.ensures.stands.is) (list_is _) }
