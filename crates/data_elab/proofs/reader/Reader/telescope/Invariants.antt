use Rattle.std.proofs.Common.{◌<◌, length}
use Rattle.core_rules.specs.Mapped.{AllEntries, telescope_map}
use Rattle.data_rules.specs.Shapes.{telescope}
use Rattle.data_elab.specs.Reader.{Grows, Keeps, over, term_of}
use Rattle.data_elab.specs.Shapes.{kind_of}
use Rattle.data_elab.proofs.Ended.{Readings}
use Rattle.data_elab.proofs.reader.Reader.telescope.Given as goal

abbrev pub invariant-loop-entries : goal.invariant-loop-entries
invariant-loop-entries l = record {
  grows : Grows l.fn.self l.self;
  keeps : Keeps l.fn.self l.self;
  ty : l.ty < length l.self.pool.now.trees;
  within : AllEntries (λ t. t < length l.self.pool.now.trees) l.entries.items;
  reading : Readings (over l.fn.self) (telescope l.fn.pos (kind_of l.fn.tested) l.fn.room (term_of l.fn.self l.fn.ty)) l.fn.pos (kind_of l.fn.tested)
      (telescope_map (term_of l.self) l.entries.items) l.left (term_of l.self l.ty);
}

abbrev pub decreases-loop-entries : goal.decreases-loop-entries
decreases-loop-entries l = l.left
