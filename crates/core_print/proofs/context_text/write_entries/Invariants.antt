use Rattle.std.proofs.Common.{◌≡◌, ◌++◌, map, reverse, take}
use Rattle.std.specs.Prelude.{string_bytes}
use Rattle.core_rules.specs.Bounded.{full}
use Rattle.core_rules.specs.InScope.{IsAcyclic}
use Rattle.core_rules.specs.Substitution.{replace}
use Rattle.core_terms.specs.Solutions.{solved_in}
use Rattle.term_pool.specs.Pool.{tree}
use Rattle.core_print.specs.ContextText.{entry_lines}
use Rattle.core_print.specs.Pages.{names_in}
use Rattle.core_print.specs.Views.{world_of}
use Rattle.core_print.proofs.context_text.write_entries.Given as goal

abbrev pub invariant-loop-n : goal.invariant-loop-n
invariant-loop-n g l =
    (a : IsAcyclic (solved_in l.source.pool.now (g.S.Solutions.solution l.sol))) → string_bytes l.out
    ≡ string_bytes l.fn.out ++ entry_lines (world_of l.source.view) (names_in l.source.view.names.now (take l.n l.lines.labels.now)) (reverse (take l.n l.lines.marks.now))
    (map (λ e. replace (full (solved_in l.source.pool.now (g.S.Solutions.solution l.sol)) a) (tree l.source.pool.now e.ty)) (reverse (take l.n l.lines.entries.now)))
