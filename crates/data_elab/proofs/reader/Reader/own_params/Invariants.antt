use Rattle.std.proofs.Common.{◌<◌, length, map}
use Rattle.std.specs.List.{AllByRecursion}
use Rattle.data_rules.specs.Shapes.{own_params}
use Rattle.data_elab.specs.Reader.{Grows, Keeps, over, term_of}
use Rattle.data_elab.proofs.OwnParams.{Readings}
use Rattle.data_elab.proofs.reader.Reader.own_params.Given as goal

abbrev pub invariant-loop-more : goal.invariant-loop-more
invariant-loop-more l = record {
  grows : Grows l.fn.self l.self;
  keeps : Keeps l.fn.self l.self;
  within : AllByRecursion (λ t. t < length l.fn.self.pool.now.trees) l.left;
  reading : Readings (over l.fn.self) (own_params l.fn.pos l.fn.inner l.fn.count (map (term_of l.fn.self) l.fn.terms)) l.fn.pos l.fn.inner l.more (map (term_of l.fn.self) l.left);
}

abbrev pub decreases-loop-more : goal.decreases-loop-more
decreases-loop-more l = l.more
