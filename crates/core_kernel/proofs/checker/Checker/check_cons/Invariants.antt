use Rattle.std.proofs.Common.{◌<◌, length, map}
use Rattle.std.specs.List.{AllByRecursion}
use Rattle.core_rules.specs.Mapped.{AllCon, con_map, fam_map}
use Rattle.core_rules.specs.InScope.{ConInScope, any_meta}
use Rattle.core_terms.specs.Signature.{fam_of}
use Rattle.kernel_rules.specs.Outcome.{Outcome}
use Rattle.kernel_rules.specs.Refusals.{DeclRefusal}
use Rattle.core_kernel.specs.Checker.{Grows, Keeps, over, signature_of, term_of}
use Rattle.core_kernel.specs.Family.{ReadsCons}
use Rattle.core_kernel.proofs.checker.Checker.check_cons.Given as goal

abbrev pub invariant-loop-left : goal.invariant-loop-left
invariant-loop-left l = record {
  grows : Grows l.fn.self l.self;
  keeps : Keeps l.fn.self l.self;
  within : AllByRecursion (AllCon (λ t. t < length l.fn.self.pool.now.trees)) l.left;
  scope : AllByRecursion (λ k. ConInScope (signature_of l.fn.self) any_meta (length l.fn.self.context.now.items) (con_map (term_of l.fn.self) k)) l.left;
  reading : (r : Outcome DeclRefusal (Unit {0})) → ReadsCons (over l.fn.self) l.fam (fam_map (term_of l.fn.self) (fam_of l.decl)) (map (con_map (term_of l.fn.self)) l.left) r
      → ReadsCons (over l.fn.self) l.fam (fam_map (term_of l.fn.self) (fam_of l.decl)) (map (con_map (term_of l.fn.self)) l.cons) r;
}

abbrev pub decreases-loop-left : goal.decreases-loop-left
decreases-loop-left l = length l.left
