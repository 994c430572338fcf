use Rattle.std.proofs.Common.{◌≡◌, ◌<◌, ◌++◌, ℕ, List, length}
use Rattle.core_rules.specs.Mapped.{AllEntries, telescope_map}
use Rattle.core_rules.specs.InScope.{TelescopeInScope, any_meta}
use Rattle.kernel_rules.specs.Outcome.{Outcome}
use Rattle.kernel_rules.specs.Refusals.{Refusal}
use Rattle.core_kernel.specs.Checker.{IsReady, Grows, over, signature_of, term_of}
use Rattle.core_kernel.specs.Family.{Levels}
use Rattle.core_kernel.proofs.Levels.{prefixed}
use Rattle.core_kernel.proofs.checker.Checker.levels.Given as goal

abbrev pub invariant-loop-left : goal.invariant-loop-left
invariant-loop-left l = record {
  grows : Grows l.fn.self l.self;
  signature : l.self.signature.now ≡ l.fn.self.signature.now;
  limits : l.self.limits ≡ l.fn.self.limits;
  context : l.self.context.now.items ++ l.left ≡ l.fn.self.context.now.items ++ l.entries;
  ready : IsReady l.self;
  entries : AllEntries (λ t. t < length l.fn.self.pool.now.trees) l.left;
  scope : TelescopeInScope (signature_of l.fn.self) any_meta (length l.self.context.now.items) (telescope_map (term_of l.fn.self) l.left);
  reading : (r : Outcome Refusal (List ℕ)) → Levels (over l.self) (telescope_map (term_of l.fn.self) l.left) r → Levels (over l.fn.self) (telescope_map (term_of l.fn.self) l.entries) (prefixed l.levels.items r);
}

abbrev pub decreases-loop-left : goal.decreases-loop-left
decreases-loop-left l = length l.left
