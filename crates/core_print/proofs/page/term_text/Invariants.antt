use Rattle.std.proofs.Common.{◌≡◌}
use Rattle.term_pool.specs.Pool.{tree}
use Rattle.core_print.specs.Printed.{shown}
use Rattle.core_print.specs.Pages.{WorksIn, names_in, whole}
use Rattle.core_print.specs.Views.{world_of}
use Rattle.core_print.proofs.page.term_text.Given as goal

abbrev pub invariant-loop-turn : goal.invariant-loop-turn
invariant-loop-turn l = record {
  works : WorksIn l.source.pool.now l.page;
  is : whole (world_of l.source.view) l.source.pool.now l.page ≡ shown (world_of l.source.view) (names_in l.source.view.names.now l.fn.inside.items) (tree l.source.pool.now l.fn.t);
}
