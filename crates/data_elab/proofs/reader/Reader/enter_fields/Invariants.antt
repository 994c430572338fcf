use Rattle.std.proofs.Common.{length}
use Rattle.data_rules.specs.Families.{lines_of}
use Rattle.data_rules.specs.Rules.{field_lines}
use Rattle.data_elab.specs.Constructors.{lines_in}
use Rattle.data_elab.specs.Reader.{Grows, values_of}
use Rattle.data_elab.proofs.Entering.{AreRead}
use Rattle.data_elab.proofs.reader.Reader.enter_fields.Given as goal

abbrev pub invariant-loop-left : goal.invariant-loop-left
invariant-loop-left l = record {
  grows : Grows l.fn.self l.self;
  read : AreRead l.fn.self l.self (field_lines l.fn.level (values_of l.self) (lines_in l.fn.self (lines_of l.left))) (field_lines l.fn.level (values_of l.fn.self) (lines_in l.fn.self (lines_of l.items)));
}

abbrev pub decreases-loop-left : goal.decreases-loop-left
decreases-loop-left l = length l.left
