-- Why a left side is refused, and where.
use Rattle.core_rules.specs.Term.{Term}
use Rattle.core_rules.specs.Signature.{Context}
use Rattle.el_outside.specs.declared.place.Pos.{Pos}

-- UnifyStuck carries the two head forms to which no rule applies, that of the constructor's index on the left, and the context in which
-- they stand
pub data Kind : Type 0 where
  CannotSplit : Kind
  UnifyStuck : Context Term → Term → Term → Kind
  NotAbsurd : Kind
  WrongArity : Kind
  NoSuchName : Kind
  ForcedConstructor : Kind
  Impossible : Kind
  OutOfFuel : Kind
  OutOfDepth : Kind

pub record Refusal : Type 0 where
  pub pos : Pos
  pub kind : Kind

abbrev pub at : Pos → Kind → Refusal
at p k = record { pos = p; kind = k }
