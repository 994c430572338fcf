use Rattle.std.proofs.Common.{◌<◌, length}
use Rattle.written_rules.specs.Expressions.{ids}
use Rattle.data_rules.specs.Rules.{group}
use Rattle.data_elab.specs.Reader.{Grows, term_of}
use Rattle.data_elab.proofs.Entering.{AreSoFar}
use Rattle.data_elab.proofs.reader.Reader.enter_group.Given as goal

abbrev pub invariant-loop-left : goal.invariant-loop-left
invariant-loop-left l = record {
  grows : Grows l.fn.self l.self;
  ty : l.ty < length l.self.pool.now.trees;
  entered : AreSoFar l.fn.self l.self (group l.fn.flag (ids l.left) (term_of l.self l.ty)) (group l.fn.flag (ids l.fn.names) (term_of l.fn.self l.fn.ty));
}

abbrev pub decreases-loop-left : goal.decreases-loop-left
decreases-loop-left l = length l.left
