-- The patterns of a constructor with its arguments, in code.
use Rattle.std.specs.Prelude.{◌≡◌, Bool, true, false, List, [], ◌∷◌, Result, Ok, Err}
use Rattle.std.specs.declared.vec.Vec.{Vec}
use Rattle.core_rules.specs.Term.{Term}
use Rattle.core_rules.specs.Signature.{Entry, Origin, Telescope, Signature}
use Rattle.kernel_rules.specs.Outcome.{Refuses}
use Rattle.el_outside.specs.declared.place.Pos.{Pos}
use Rattle.term_pool.specs.Pool.{Pool}
use Rattle.lhs_rules.specs.Spots.{name_by}
use Rattle.lhs_rules.specs.Rules.{ElimMeaning, Slot, aligned, with_slot, written_slot, unwritten_slot, braces_of}
use Rattle.lhs_rules.specs.Patterns.{inside}
use Rattle.lhs_elab.specs.declared.error.LhsError.{LhsError}
use Rattle.lhs_elab.specs.Answers.{RefusedBy}

-- the argument has this pattern
abbrev pub slot_for : ElimMeaning → Slot
slot_for m = written_slot (braces_of m.next) (inside m)

-- the argument has the first of these patterns, or none
abbrev pub slot_by : Bool → List ElimMeaning → Slot
slot_by false ms = unwritten_slot
slot_by true [] = unwritten_slot
slot_by true (m ∷ ms) = slot_for m

-- the patterns that are left then
abbrev pub rest_by : Bool → List ElimMeaning → List ElimMeaning
rest_by false ms = ms
rest_by true [] = []
rest_by true (m ∷ ms) = ms

-- the patterns are aligned with the argument e and others by this one, and then with the others; or they are refused at e
abbrev pub Steps : Signature Term → Pos → Pool → Entry Term → List ElimMeaning → Result Bool LhsError → Type 0
Steps g q p e ms (Ok w) = (es : Telescope Term) → aligned g q ms (e ∷ es) ≡ with_slot (slot_by w ms) (aligned g q (rest_by w ms) es)
Steps g q p e ms (Err x) = RefusedBy p (λ r. (es : Telescope Term) → aligned g q ms (e ∷ es) ≡ Refuses r) x

-- the arguments in order, where these have patterns
abbrev pub slots_of : List Bool → List ElimMeaning → List Slot
slots_of [] ms = []
slots_of (w ∷ ws) ms = slot_by w ms ∷ slots_of ws (rest_by w ms)

abbrev pub AreSlots : {G : Type 0} → List ElimMeaning → Vec Bool G → (List Slot → Type 0) → Type 0
AreSlots ms v P = P (slots_of v.items ms)

-- the first entry under the name that a pattern of this origin gives it
abbrev pub first_named : {A : Type 0} → Origin → List (Entry A) → List (Entry A)
first_named o [] = []
first_named o (e ∷ es) = record e { name = name_by o e.name } ∷ []
