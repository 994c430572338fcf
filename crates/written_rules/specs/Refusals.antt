-- Why an expression is refused, and where.
use Rattle.std.specs.Prelude.{ℕ, List}
use Rattle.core_rules.specs.Term.{Term}
use Rattle.el_outside.specs.declared.place.Pos.{Pos}

-- Mismatch and DotWrong carry the two head forms that differ, what is found on the left, and the names of the binders around them,
-- outermost first; DotWrong is that of a dotted pattern. NotAFunction, NotARecord and NotAType carry the head form that was looked at.
-- CannotInfer stands where something is left out that only a metavariable could stand for
pub data Kind : Type 0 where
  Mismatch : Term → Term → List ℕ → Kind
  DotWrong : Term → Term → List ℕ → Kind
  NotAFunction : Term → Kind
  NotARecord : Term → Kind
  NotAType : Term → Kind
  NoSuchName : Kind
  CannotInfer : Kind
  BadField : Kind
  OutOfFuel : Kind
  OutOfDepth : Kind

pub record Refusal : Type 0 where
  pub pos : Pos
  pub kind : Kind

abbrev pub at : Pos → Kind → Refusal
at p k = record { pos = p; kind = k }
