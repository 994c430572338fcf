-- The ids of a refused left side stand in the pool, whatever is said of the refusal.
use Rattle.term_pool.specs.Pool.{Pool}
use Rattle.lhs_rules.specs.Refusals.{Kind}
use Rattle.lhs_elab.specs.Answers.{IsKind}
use Rattle.lhs_elab.specs.declared.error.LhsKind.{LhsKind}
use Rattle.lhs_elab.specs.declared.error.LhsKind.TheVariants as K

pub kind_stands : (p : Pool) (P : Kind → Type 0) (k : LhsKind) → IsKind p P k → IsKind p (λ i. Unit {0}) k
kind_stands p P K.CannotSplit h = tt
kind_stands p P (K.UnifyStuck c t u) h = (h.0, h.1, h.2, tt)
kind_stands p P K.NotAbsurd h = tt
kind_stands p P K.WrongArity h = tt
kind_stands p P K.NoSuchName h = tt
kind_stands p P K.ForcedConstructor h = tt
kind_stands p P K.Impossible h = tt
kind_stands p P K.OutOfFuel h = tt
kind_stands p P K.OutOfDepth h = tt
