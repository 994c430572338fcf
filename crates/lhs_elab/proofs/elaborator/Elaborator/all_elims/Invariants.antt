use Rattle.std.specs.Prelude.{ℕ, Option, length}
use Rattle.core_rules.specs.Term.{Term}
use Rattle.core_rules.specs.BoundedLaws.{IsFull}
use Rattle.kernel_rules.specs.Outcome.{Outcome}
use Rattle.lhs_rules.specs.Refusals.{Refusal}
use Rattle.lhs_rules.specs.Rules.{all_elims}
use Rattle.lhs_rules.specs.Spots.{Left}
use Rattle.lhs_elab.specs.Elaborator.{Comes, IsReady, Grows, Keeps, left_of, over, signature_of, solved_of}
use Rattle.lhs_elab.specs.Reading.{meanings}
use Rattle.lhs_elab.proofs.elaborator.Elaborator.all_elims.Given as goal

abbrev pub invariant-loop-left : goal.invariant-loop-left
invariant-loop-left g l = record {
  grows : Grows l.fn.self l.self;
  keeps : Keeps l.fn.self l.self;
  ready : IsReady g.S.Solutions.solution l.self;
  reading : (f : ℕ → Option Term) → IsFull (solved_of g.S.Solutions.solution l.fn.self) f → (r : Outcome Refusal Left)
      → Comes (over g.S.Solutions.solution f l.fn.self) (all_elims (signature_of l.fn.self) l.fn.self.function (meanings l.fn.self l.left) (left_of l.self)) r
      → Comes (over g.S.Solutions.solution f l.fn.self) (all_elims (signature_of l.fn.self) l.fn.self.function (meanings l.fn.self l.fn.patterns) (left_of l.fn.self)) r;
}

abbrev pub decreases-loop-left : goal.decreases-loop-left
decreases-loop-left g l = length l.left
