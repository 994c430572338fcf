use Rattle.std.proofs.Common.{◌≡◌, ◌<◌, ◌+◌, ◌*◌, ◌++◌, drop, length}
use Rattle.std.specs.Prelude.{string_bytes}
use Rattle.core_rules.specs.Mapped.{AllPats, pats_map}
use Rattle.core_terms.specs.Patterns.{pats_of}
use Rattle.core_terms.specs.Sizes.{pat_size, pats_size}
use Rattle.term_pool.specs.Pool.{tree}
use Rattle.core_print.specs.LeftSide.{pats_text}
use Rattle.core_print.specs.Pages.{bound_in, names_in}
use Rattle.core_print.specs.Views.{world_of}
use Rattle.core_print.proofs.left_side.+patterns.Given as goal

abbrev pub invariant-pats_text-loop-pat : goal.invariant-pats_text-loop-pat
invariant-pats_text-loop-pat l = record {
  terms : AllPats (λ t. t < length l.printer.source.pool.now.trees) (pats_of (drop l.pat-index l.pats));
  is : pats_text (world_of l.printer.source.view) (bound_in l.printer.source.view.names.now l.printer.bound.now) (names_in l.printer.source.view.names.now l.printer.inside.now)
      (pats_map (tree l.printer.source.pool.now) (pats_of l.pats))
      ≡ string_bytes l.out
      ++ pats_text (world_of l.printer.source.view) (bound_in l.printer.source.view.names.now l.printer.bound.now) (names_in l.printer.source.view.names.now l.printer.inside.now)
      (pats_map (tree l.printer.source.pool.now) (pats_of (drop l.pat-index l.pats)));
}

abbrev pub decreases-pats_text : goal.decreases-pats_text
decreases-pats_text l = 3 * pats_size (pats_of l.pats.now)

abbrev pub decreases-pat_text : goal.decreases-pat_text
decreases-pat_text l = 3 * pat_size l.pat.now + 2

abbrev pub decreases-shape_text : goal.decreases-shape_text
decreases-shape_text l = 3 * pat_size l.pat.now + 1
