use Rattle.std.proofs.Common.{length, map}
use Rattle.core_rules.specs.Mapped.{con_map}
use Rattle.data_rules.specs.Rules.{con_lines}
use Rattle.data_elab.specs.Constructors.{AreCons, lines_in}
use Rattle.data_elab.specs.Heading.{heading_in}
use Rattle.data_elab.specs.Reader.{Grows, Keeps, over, term_of}
use Rattle.data_elab.proofs.ConsRead.{Readings}
use Rattle.data_elab.proofs.reader.Reader.read_cons.Given as goal

abbrev pub invariant-loop-left : goal.invariant-loop-left
invariant-loop-left l = record {
  grows : Grows l.fn.self l.self;
  keeps : Keeps l.fn.self l.self;
  within : AreCons l.self.pool.now l.cons.items;
  reading : Readings (over l.fn.self) (con_lines l.fn.fam (heading_in l.fn.self.pool.now l.fn.heading) (lines_in l.fn.self l.fn.lines)) l.fn.fam (heading_in l.fn.self.pool.now l.fn.heading)
      (map (con_map (term_of l.self)) l.cons.items) (lines_in l.fn.self l.left);
}

abbrev pub decreases-loop-left : goal.decreases-loop-left
decreases-loop-left l = length l.left
