-- By the kind of each constructor.
use Rattle.match_rules.specs.Matching.{pats_vars}
use Rattle.cover_rules.proofs.Plain.{pats_plain}
use Rattle.cover_rules.proofs.laws.clauses_plain.Goals as goal

pub returns : goal.returns
returns c = λ g q. pats_plain g (pats_vars q.left.pats) q.left.pats
