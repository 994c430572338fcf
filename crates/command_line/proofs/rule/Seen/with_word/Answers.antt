use Rattle.command_line.proofs.Seen.{sees_joined, sees_next_value}
use Rattle.command_line.proofs.rule.Seen.with_word.Goals as goal

pub returns-in_ok-with_value-in-Gives : goal.returns-in_ok-with_value-in-Gives
returns-in_ok-with_value-in-Gives c =
    λ p h. sees_joined _ _ _ _ p _ c.in-Word.is c.in-Gives.ensures (c.in_ok-with_value-in-Gives.ensures p h)

pub returns-in_ok-with_value-in-Value : goal.returns-in_ok-with_value-in-Value
returns-in_ok-with_value-in-Value c =
    λ p h. sees_next_value _ _ _ p _ c.in-Value.is (c.in_ok-with_value-in-Value.ensures p h)
