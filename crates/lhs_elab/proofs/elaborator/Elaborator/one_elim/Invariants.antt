use Rattle.std.specs.Prelude.{ℕ, Option}
use Rattle.core_rules.specs.Term.{Term}
use Rattle.core_rules.specs.BoundedLaws.{IsFull}
use Rattle.kernel_rules.specs.Outcome.{Outcome}
use Rattle.lhs_rules.specs.Refusals.{Refusal}
use Rattle.lhs_rules.specs.Rules.{most_inserted, one_elim}
use Rattle.lhs_rules.specs.Patterns.{pattern_meaning}
use Rattle.lhs_rules.specs.Spots.{Left}
use Rattle.lhs_elab.specs.Elaborator.{Comes, IsReady, Grows, Keeps, left_of, over, signature_of, solved_of}
use Rattle.lhs_elab.proofs.elaborator.Elaborator.one_elim.Given as goal

abbrev pub invariant-inserting : goal.invariant-inserting
invariant-inserting g l = record {
  grows : Grows l.fn.self l.self;
  keeps : Keeps l.fn.self l.self;
  ready : IsReady g.S.Solutions.solution l.self;
  reading : (f : ℕ → Option Term) → IsFull (solved_of g.S.Solutions.solution l.fn.self) f → (r : Outcome Refusal Left)
      → Comes (over g.S.Solutions.solution f l.fn.self) (one_elim (signature_of l.fn.self) l.fn.self.function (pattern_meaning (signature_of l.fn.self) l.fn.self.function l.pattern) l.room (left_of l.self)) r
      → Comes (over g.S.Solutions.solution f l.fn.self) (one_elim (signature_of l.fn.self) l.fn.self.function (pattern_meaning (signature_of l.fn.self) l.fn.self.function l.pattern) most_inserted (left_of l.fn.self)) r;
}

abbrev pub decreases-inserting : goal.decreases-inserting
decreases-inserting g l = l.room
