-- What follows for the refusal that an error is.
use Rattle.term_pool.specs.Pool.{Pool, tree}
use Rattle.index_unify.specs.Unified.{context_in}
use Rattle.lhs_rules.specs.Refusals.{Refusal, at, CannotSplit, UnifyStuck, NotAbsurd, WrongArity, NoSuchName, ForcedConstructor, Impossible, OutOfFuel, OutOfDepth}
use Rattle.lhs_elab.specs.declared.error.LhsError.{LhsError}
use Rattle.lhs_elab.specs.declared.error.LhsError.TheVariants as E
use Rattle.lhs_elab.specs.declared.error.LhsKind.TheVariants as K
use Rattle.lhs_elab.specs.Answers.{RefusedBy}

module _ (p : Pool) (P Q : Refusal → Type 0) (f : (r : Refusal) → P r → Q r) where
  pub refused-as : (e : LhsError) → RefusedBy p P e → RefusedBy p Q e
  refused-as (E.Bad q K.CannotSplit) h = f (at q CannotSplit) h
  refused-as (E.Bad q (K.UnifyStuck c t u)) h = (h.0, h.1, h.2, f (at q (UnifyStuck (context_in p c) (tree p t) (tree p u))) h.3)
  refused-as (E.Bad q K.NotAbsurd) h = f (at q NotAbsurd) h
  refused-as (E.Bad q K.WrongArity) h = f (at q WrongArity) h
  refused-as (E.Bad q K.NoSuchName) h = f (at q NoSuchName) h
  refused-as (E.Bad q K.ForcedConstructor) h = f (at q ForcedConstructor) h
  refused-as (E.Bad q K.Impossible) h = f (at q Impossible) h
  refused-as (E.Bad q K.OutOfFuel) h = f (at q OutOfFuel) h
  refused-as (E.Bad q K.OutOfDepth) h = f (at q OutOfDepth) h
  refused-as E.NoMemory h = tt
