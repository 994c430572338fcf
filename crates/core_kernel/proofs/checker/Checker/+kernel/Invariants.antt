use Rattle.std.proofs.Common.{◌≡◌, ◌<◌, ◌≤◌, ◌+◌, ◌*◌, max, length, map, take}
use Rattle.core_rules.specs.Term.{Term, size, size_all}
use Rattle.core_rules.specs.Mapped.{telescope_map}
use Rattle.core_kernel.specs.Checker.{term_of}
use Rattle.core_kernel.proofs.Spines.{most}
use Rattle.core_kernel.proofs.Slots.{slot}
use Rattle.core_kernel.proofs.Walk.{IsReading}
use Rattle.core_kernel.specs.Spine.{unwound}
use Rattle.core_kernel.specs.Checker.{IsTerm, Grows, Keeps, Infers, FitsInto, context_of, over, signature_of}
use Rattle.term_pool.specs.Pool.{args, tree}
use Rattle.term_pool.specs.Placed.{filled}
use Rattle.kernel_rules.specs.Outcome.{Outcome, Gives}
use Rattle.kernel_rules.specs.Refusals.{Refusal}
use Rattle.core_kernel.proofs.Fits.{FitsLeft}
use Rattle.core_kernel.proofs.Items.{most_of}
use Rattle.std.specs.List.{AllByRecursion}
use Rattle.core_kernel.proofs.checker.Checker.+kernel.Given as goal

abbrev pub decreases-infer : goal.decreases-infer
decreases-infer l = 4 * size (term_of l.self.now l.t)

abbrev pub decreases-level : goal.decreases-level
decreases-level l = 4 * size (term_of l.self.now l.t) + 1

abbrev pub decreases-check : goal.decreases-check
decreases-check l = 4 * size (term_of l.self.now l.t) + 1

abbrev pub decreases-level_under : goal.decreases-level_under
decreases-level_under l = 4 * size (term_of l.self.now l.t) + 2

abbrev pub decreases-infer_under : goal.decreases-infer_under
decreases-infer_under l = 4 * size (term_of l.self.now l.t) + 2

abbrev pub decreases-type_of_pi : goal.decreases-type_of_pi
decreases-type_of_pi l = 4 * max (size (term_of l.self.now l.dom)) (size (term_of l.self.now l.cod)) + 3

abbrev pub decreases-type_of_lambda : goal.decreases-type_of_lambda
decreases-type_of_lambda l = 4 * max (size (term_of l.self.now l.dom)) (size (term_of l.self.now l.body)) + 3

abbrev pub decreases-type_of_application : goal.decreases-type_of_application
decreases-type_of_application l = 4 * (size (term_of l.self.now l.fun) + size (term_of l.self.now l.arg)) + 3

abbrev pub decreases-at_arguments : goal.decreases-at_arguments
decreases-at_arguments l = 4 * most (term_of l.self.now) l.arguments.items + 2

abbrev pub invariant-at_arguments-loop-next : goal.invariant-at_arguments-loop-next
invariant-at_arguments-loop-next l = record {
  grows : Grows l.fn.self l.self;
  keeps : Keeps l.fn.self l.self;
  within : l.ty < length l.self.pool.now.trees;
  arguments : AllByRecursion (λ a. IsTerm l.fn.self a.term) l.arguments.items;
  small : most (term_of l.fn.self) l.arguments.items ≤ most (term_of l.fn.self) l.fn.arguments.items;
  terms : AllByRecursion (λ i. i < length l.fn.self.pool.now.trees) l.fn.terms;
  place : map (λ a. a.term) l.arguments.items ≡ take (length l.arguments.items) l.fn.terms;
  low : length l.arguments.items ≤ l.end;
  high : l.end ≤ length l.fn.terms;
  reading : (h : Term) → Infers (over l.fn.self) h (Gives (term_of l.fn.self l.fn.ty))
      → IsReading (over l.fn.self) (term_of l.fn.self) (unwound (term_of l.fn.self) h l.fn.arguments.items) l.arguments.items
      (filled (map (tree l.self.pool.now) (slot (length l.arguments.items) l.end l.fn.terms)) (term_of l.self l.ty));
}

abbrev pub decreases-at_arguments-loop-next : goal.decreases-at_arguments-loop-next
decreases-at_arguments-loop-next l = length l.arguments.items

abbrev pub decreases-fits : goal.decreases-fits
decreases-fits l = 4 * most_of (term_of l.self.now) l.terms.now + 2

abbrev pub decreases-type_of_con : goal.decreases-type_of_con
decreases-type_of_con l = 4 * size_all (args l.self.now.pool.now l.params) + 3

abbrev pub decreases-type_of_projection : goal.decreases-type_of_projection
decreases-type_of_projection l = 4 * size (term_of l.self.now l.of) + 1

abbrev pub invariant-fits-loop-left : goal.invariant-fits-loop-left
invariant-fits-loop-left l = record {
  grows : Grows l.fn.self l.self;
  keeps : Keeps l.fn.self l.self;
  within : l.left ≤ length l.terms;
  reading : (r : Outcome Refusal (Unit {0})) → FitsLeft (signature_of l.fn.self) l.fn.self.limits.fuel l.fn.self.limits.depth (context_of l.fn.self)
      (map (term_of l.fn.self) l.terms) (telescope_map (term_of l.fn.self) l.entries) l.left r
      → FitsInto (over l.fn.self) (map (term_of l.fn.self) l.terms) (telescope_map (term_of l.fn.self) l.entries) r;
}

abbrev pub decreases-fits-loop-left : goal.decreases-fits-loop-left
decreases-fits-loop-left l = l.left
