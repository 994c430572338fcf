use Rattle.std.proofs.Common.{ap, ◌∙◌}
use Rattle.std.specs.Prelude.{reverse}
use Rattle.weak_head.proofs.Resolving.{env_from}
use Rattle.weak_head.proofs.resolve.values.Goals as goal

pub returns-clause-is : goal.returns-clause-is
returns-clause-is c = env_from c.args.pool.now c.in_ok-args.field-0 c.reverse.new.self.items _ (c.reverse.ensures.items ∙ ap reverse c.into_vec-values.ensures) c.in_ok-args.ensures.is
