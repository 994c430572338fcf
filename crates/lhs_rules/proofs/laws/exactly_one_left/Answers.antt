use Rattle.lhs_rules.specs.Patterns.{left_read, AnswersWith}
use Rattle.lhs_rules.proofs.Comes.{comes-exactly}
use Rattle.lhs_rules.proofs.Answered.{always_answers, answers_once}
use Rattle.lhs_rules.proofs.laws.exactly_one_left.Goals as goal

pub returns : goal.returns
returns c = λ g s f fuel depth a q h. comes-exactly g s fuel (AnswersWith g f fuel depth) h (always_answers g f fuel depth) (answers_once g f fuel depth) (left_read g a q)
