use Rattle.parse_laws.proofs.Limit.{still_within, still_unexpected}
use Rattle.parse_laws.proofs.laws.greater_limit.Goals as goal

pub returns-clause-within : goal.returns-clause-within
returns-clause-within g c = λ low high more i. still_within low high more i

pub returns-clause-unexpected : goal.returns-clause-unexpected
returns-clause-unexpected g c = λ f low high more front rest. still_unexpected low high more f front rest
