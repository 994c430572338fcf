use Rattle.std.specs.Prelude.{ℕ, Option, drop, length}
use Rattle.core_rules.specs.BoundedLaws.{IsFull}
use Rattle.core_rules.specs.Term.{Term}
use Rattle.lhs_elab.specs.Elaborator.{IsReady, Grows, Keeps, left_of, over, solved_of}
use Rattle.lhs_elab.specs.Reading.{meanings}
use Rattle.lhs_elab.specs.Slots.{slots_of}
use Rattle.lhs_elab.proofs.Visiting.{VisitedTo}
use Rattle.lhs_elab.proofs.elaborator.Elaborator.+visit.Given as goal

abbrev pub invariant-visit_all-loop-flags : goal.invariant-visit_all-loop-flags
invariant-visit_all-loop-flags g l = record {
  grows : Grows l.fn.self l.self;
  keeps : Keeps l.fn.self l.self;
  ready : IsReady g.S.Solutions.solution l.self;
  visited : (f : ℕ → Option Term) → IsFull (solved_of g.S.Solutions.solution l.fn.self) f
      → VisitedTo (over g.S.Solutions.solution f l.fn.self) (slots_of l.written (meanings l.fn.self l.patterns)) l.first (left_of l.fn.self) l.pats.items (slots_of l.flags (drop l.at (meanings l.fn.self l.patterns))) l.number (left_of l.self);
}

abbrev pub decreases-visit_all-loop-flags : goal.decreases-visit_all-loop-flags
decreases-visit_all-loop-flags g l = length l.flags
