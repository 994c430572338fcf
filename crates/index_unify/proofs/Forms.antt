-- The head form that is found, with solved metavariables replaced.
use Rattle.std.specs.Prelude.{ℕ, Option}
use Rattle.std.proofs.Common.{subst}
use Rattle.core_rules.specs.Term.{Term}
use Rattle.core_rules.specs.Signature.{Signature}
use Rattle.core_rules.specs.Heads.{Solutions}
use Rattle.term_pool.specs.Pool.{Pool, tree}
use Rattle.core_terms.specs.Solutions.{IsInstance}
use Rattle.weak_head.specs.Answers.{IsFound}
use Rattle.index_unify.specs.Rules.{IsFormOf}

pub form_found : (g : Signature Term) (s : Solutions) (t : Term) (fuel : ℕ) (p q : Pool) (meta : Option ℕ) (r n m : ℕ) → IsFound g s t fuel p meta r n → IsInstance q s (tree p r) m → IsFormOf g s t fuel q m
form_found g s t fuel p q meta r n m h i = record { answer = h.answer; steps = n; is = h.is; stands = subst (λ u. IsInstance q s u m) h.term.is i }
