-- The derivation, the covering, and the law.
use Rattle.match_rules.specs.PairClauses.{swap_by_clauses}
use Rattle.match_rules.proofs.Cover.WithClauses.{holds_by_clauses}
use Rattle.match_rules.proofs.Cover.Pairs.{derivation, in_scope, is_covered}
use Rattle.match_rules.proofs.laws.pair_clauses_hold.Goals as goal

pub returns : goal.returns
returns c = holds_by_clauses swap_by_clauses 0 derivation in_scope is_covered
