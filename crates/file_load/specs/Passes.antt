-- What a line of postulates or a family passes before it is declared: it is elaborated, measured, and checked by the kernel.
use Rattle.std.specs.Prelude.{◌≡◌, true, false, List, [], Result, Ok, Err}
use Rattle.core_rules.specs.Term.{Term}
use Rattle.kernel_rules.specs.Outcome.{Outcome, Gives, Refuses}
use Rattle.el_outside.specs.declared.place.Pos.{Pos}
use Rattle.session_text.specs.declared.error.LoadError.{LoadError}
use Rattle.session_text.specs.declared.error.LoadKind.{LoadKind}
use Rattle.session_text.specs.declared.error.LoadKind.TheVariants as kind
use Rattle.file_load.specs.Sizes.{are_too_large}

abbrev pub error_at : Pos → LoadKind → LoadError
error_at p k = record { pos = p; kind = k; lines = [] }

-- Elaborates says what comes of it, and of a refusal refusal tells the error; terms are the terms of what was elaborated; Checks says what
-- the kernel answers to it, and of a refusal kind_of tells the kind. A refusal of the expressions stands where they say, what is refused of
-- the whole stands at p, the name
module _ {E A F B : Type 0} (Elaborates : Outcome E A → Type 0) (refusal : E → LoadError) (terms : A → List Term) (Checks : A → Outcome F B → Type 0)
    (kind_of : F → LoadKind) (p : Pos) where
  pub data Passes : Result A LoadError → Type 0 where
    unelaborated : (e : E) → Elaborates (Refuses e) → Passes (Err (refusal e))
    too_large : (a : A) → Elaborates (Gives a) → are_too_large (terms a) ≡ true → Passes (Err (error_at p kind.TooLarge))
    unchecked : (a : A) (e : F) → Elaborates (Gives a) → are_too_large (terms a) ≡ false → Checks a (Refuses e) → Passes (Err (error_at p (kind_of e)))
    passed : (a : A) (b : B) → Elaborates (Gives a) → are_too_large (terms a) ≡ false → Checks a (Gives b) → Passes (Ok a)
