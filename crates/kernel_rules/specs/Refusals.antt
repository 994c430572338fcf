-- Why the kernel refuses a term or a declaration, and the smallest readings of declarations.
use Rattle.std.specs.Prelude.{◌≡◌, ℕ, Bool, cond}
use Rattle.core_rules.specs.Term.{Term}
use Rattle.kernel_rules.specs.Outcome.{Outcome, Gives, Refuses, ThenAs}

-- Mismatch carries the inferred type and the wanted one, whole; NotAFunction, NotARecord and NotAType carry the head form that was
-- looked at; MetaLeft carries the metavariable that is met, or that a head form or a comparison waits for
pub data Refusal : Type 0 where
  Mismatch : Term → Term → Refusal
  NotAFunction : Term → Refusal
  NotARecord : Term → Refusal
  NotAType : Term → Refusal
  LevelTooLarge : Refusal
  MetaLeft : ℕ → Refusal
  OutOfFuel : Refusal
  OutOfDepth : Refusal

-- a refusal of one of the declaration's terms; a constructor with another number of indices than its family; a level above the
-- family's; a node of a case tree that fits no rule
pub data DeclRefusal : Type 0 where
  OfKernel : Refusal → DeclRefusal
  ConShape : DeclRefusal
  TooBig : DeclRefusal
  BadTree : DeclRefusal

-- a reading of terms, and then one of a part of a declaration
abbrev pub AfterTerms : {A B : Type 0} → (Outcome Refusal A → Type 0) → (A → Outcome DeclRefusal B → Type 0) → Outcome DeclRefusal B → Type 0
AfterTerms P Q r = ThenAs OfKernel P Q r

abbrev pub IsAccepted : Outcome DeclRefusal (Unit {0}) → Type 0
IsAccepted r = r ≡ Gives tt

abbrev pub IsBadTree : Outcome DeclRefusal (Unit {0}) → Type 0
IsBadTree r = r ≡ Refuses BadTree

-- the test w is passed, or refused by e
abbrev pub Demands : Bool → DeclRefusal → Outcome DeclRefusal (Unit {0}) → Type 0
Demands w e r = r ≡ cond w (Gives tt) (Refuses e)
