use Rattle.std.proofs.Common.{◌≡◌, ◌+◌, ◌*◌, ◌++◌, drop, map}
use Rattle.core_terms.specs.Patterns.{pats_of}
use Rattle.core_terms.specs.Sizes.{pat_size, pats_size}
use Rattle.core_print.specs.Variables.{variables_all}
use Rattle.core_print.specs.Views.{variable_of}
use Rattle.core_print.proofs.variables.+variables.Given as goal

abbrev pub invariant-push_variables-loop-pat : goal.invariant-push_variables-loop-pat
invariant-push_variables-loop-pat l =
    map variable_of l.fn.found.items ++ variables_all (pats_of l.pats) ≡ map variable_of l.found.items ++ variables_all (pats_of (drop l.pat-index l.pats))

abbrev pub decreases-push_variables : goal.decreases-push_variables
decreases-push_variables l = 2 * pats_size (pats_of l.pats.now)

abbrev pub decreases-push_pattern : goal.decreases-push_pattern
decreases-push_pattern l = 2 * pat_size l.pat.now + 1
