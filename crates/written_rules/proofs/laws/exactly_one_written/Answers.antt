use Rattle.written_rules.specs.Expressions.{expr_meaning}
use Rattle.written_rules.specs.Rules.{dot_checked}
use Rattle.written_rules.proofs.Comes.{comes-exactly}
use Rattle.written_rules.proofs.laws.exactly_one_written.Goals as goal

pub returns : goal.returns
returns c = λ g fuel depth p vs e a t.
    (comes-exactly g fuel depth ((expr_meaning g e).checks vs a), comes-exactly g fuel depth ((expr_meaning g e).types vs), comes-exactly g fuel depth (dot_checked p (expr_meaning g e).checks vs a t))
