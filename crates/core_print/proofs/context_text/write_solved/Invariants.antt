use Rattle.std.proofs.Common.{◌≡◌, ◌++◌, drop, map}
use Rattle.std.specs.List.{AllByRecursion}
use Rattle.std.specs.Prelude.{string_bytes}
use Rattle.core_rules.specs.Bounded.{full}
use Rattle.core_rules.specs.InScope.{IsAcyclic}
use Rattle.core_rules.specs.Mapped.{solved_map}
use Rattle.core_rules.specs.Substitution.{replace}
use Rattle.core_terms.specs.Solutions.{solved_in}
use Rattle.term_pool.specs.Pool.{tree}
use Rattle.core_print.specs.ContextText.{solved_lines}
use Rattle.core_print.specs.Pages.{SolvedIn, names_in}
use Rattle.core_print.specs.Views.{world_of}
use Rattle.core_print.proofs.context_text.write_solved.Given as goal

abbrev pub invariant-loop-solved : goal.invariant-loop-solved
invariant-loop-solved g l = record {
  terms : AllByRecursion (SolvedIn l.source.pool.now) (drop l.solved-index l.named);
  is : (a : IsAcyclic (solved_in l.source.pool.now (g.S.Solutions.solution l.sol))) → string_bytes l.fn.out
      ++ solved_lines (world_of l.source.view) (names_in l.source.view.names.now l.inside)
      (map (solved_map (λ t. replace (full (solved_in l.source.pool.now (g.S.Solutions.solution l.sol)) a) (tree l.source.pool.now t))) l.named)
      ≡ string_bytes l.out
      ++ solved_lines (world_of l.source.view) (names_in l.source.view.names.now l.inside)
      (map (solved_map (λ t. replace (full (solved_in l.source.pool.now (g.S.Solutions.solution l.sol)) a) (tree l.source.pool.now t))) (drop l.solved-index l.named));
}
