use Rattle.std.proofs.Common.{◌<◌, length}
use Rattle.core_rules.specs.Term.{Term}
use Rattle.core_rules.specs.Mapped.{AllEntries, telescope_map}
use Rattle.kernel_rules.specs.Outcome.{Outcome}
use Rattle.written_rules.specs.Refusals.{Refusal}
use Rattle.written_rules.specs.Rules.{Checks, known, typed_lambda}
use Rattle.written_rules.specs.Expressions.{ids}
use Rattle.elab_machine.specs.Binders.{in_lambdas}
use Rattle.elab_machine.specs.Writer.{Grows, Enters, Read, over, term_of, values_of}
use Rattle.elab_machine.proofs.writer.Writer.enter_typed_names.Given as goal

abbrev pub invariant-loop-left : goal.invariant-loop-left
invariant-loop-left l = record {
  grows : Grows l.fn.self l.self;
  enters : Enters l.fn.self l.self;
  ty : l.ty < length l.self.pool.now.trees;
  wanted : l.wanted < length l.self.pool.now.trees;
  within : AllEntries (λ t. t < length l.self.pool.now.trees) l.entries.items;
  reading : (e : Checks) (r : Outcome Refusal Term)
      → Read (over l.fn.self) (typed_lambda l.fn.pos l.fn.flag (ids l.left) (known (term_of l.self l.ty) l.fn.found.level) e (values_of l.self) (term_of l.self l.wanted)) r
      → Read (over l.fn.self) (typed_lambda l.fn.pos l.fn.flag (ids l.fn.names) (known (term_of l.fn.self l.fn.found.term) l.fn.found.level) e (values_of l.fn.self) (term_of l.fn.self l.fn.wanted))
      (in_lambdas (telescope_map (term_of l.self) l.entries.items) r);
}

abbrev pub decreases-loop-left : goal.decreases-loop-left
decreases-loop-left l = length l.left
