use Rattle.std.specs.Prelude.{ℕ, ◌<◌, Option, length, map}
use Rattle.std.specs.List.{AllByRecursion}
use Rattle.core_rules.specs.BoundedLaws.{IsFull}
use Rattle.core_rules.specs.Mapped.{AllCon, con_map}
use Rattle.core_rules.specs.Signature.{ConDecl, cons_of}
use Rattle.core_rules.specs.Term.{Term}
use Rattle.core_rules.specs.TypedTree.{Splitting}
use Rattle.kernel_rules.specs.Outcome.{Outcome}
use Rattle.term_pool.specs.Pool.{tree}
use Rattle.lhs_rules.specs.Refusals.{Refusal}
use Rattle.lhs_rules.specs.Rules.{all_refuted}
use Rattle.lhs_elab.specs.Asked.{IsSplit}
use Rattle.lhs_elab.specs.Elaborator.{Comes, over, signature_of, solved_of}
use Rattle.lhs_elab.specs.Reading.{cons_in}
use Rattle.lhs_elab.proofs.Kept.{Same}
use Rattle.lhs_elab.proofs.elaborator.Elaborator.all_refuted.Given as goal

abbrev pub invariant-loop-left : goal.invariant-loop-left
invariant-loop-left g l = record {
  same : Same l.fn.self l.self;
  decls : AllByRecursion (λ (k : ConDecl ℕ). AllCon (λ t. t < length l.fn.self.pool.now.trees) k) l.left;
  reading : (f : ℕ → Option Term) (s : Splitting) → IsFull (solved_of g.S.Solutions.solution l.fn.self) f → IsSplit l.fn.self.pool.now l.fn.self.left.now.context.items l.level l.at s → (r : Outcome Refusal (Unit {0}))
      → Comes (over g.S.Solutions.solution f l.fn.self) (all_refuted l.pos s l.ids (map (con_map (tree l.fn.self.pool.now)) l.left)) r
      → Comes (over g.S.Solutions.solution f l.fn.self) (all_refuted l.pos s (cons_of (signature_of l.fn.self) l.at.fam) (cons_in l.fn.self l.at.fam)) r;
}

abbrev pub decreases-loop-left : goal.decreases-loop-left
decreases-loop-left g l = length l.left
