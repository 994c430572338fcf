-- What the binder of an argument takes of what the clause writes next, in code.
use Rattle.std.specs.Prelude.{ℕ, eqb, cond, Option, Some, None}
use Rattle.core_rules.specs.declared.Flag.{Flag}
use Rattle.core_rules.specs.declared.Flag.TheVariants.{Explicit, Implicit}
use Rattle.need_rules.specs.Needs.{Next, Need}
use Rattle.need_rules.specs.Needs as needs
use Rattle.lhs_elab.specs.declared.due.Written.{Written}
use Rattle.lhs_elab.specs.declared.due.Written.TheVariants as W
use Rattle.lhs_elab.specs.declared.due.Due.{Due}
use Rattle.lhs_elab.specs.declared.due.Due.TheVariants as D

-- how what stands next is written, whatever it holds
abbrev pub written_of : {E : Type 0} → Next E → Written
written_of (needs.Plain e) = W.Plain
written_of (needs.Braces e) = W.Braces
written_of (needs.Named x e) = W.Named x
written_of (needs.Field h) = W.Project

-- the field of a projection
abbrev pub field_in : {E : Type 0} → Next E → Option ℕ
field_in (needs.Plain e) = None
field_in (needs.Braces e) = None
field_in (needs.Named x e) = None
field_in (needs.Field h) = Some h

abbrev pub due_of : Flag → ℕ → Written → Due
due_of Explicit x W.Plain = D.Takes
due_of Explicit x w = D.Refuses
due_of Implicit x W.Braces = D.Takes
due_of Implicit x (W.Named y) = cond (eqb y x) D.Takes D.Inserts
due_of Implicit x w = D.Inserts

-- a need that is of this kind
abbrev pub IsDue : {E : Type 0} → Due → Need E → Type 0
IsDue D.Takes (needs.Explicit e a b) = Unit {0}
IsDue D.Takes (needs.Given e a b) = Unit {0}
IsDue D.Inserts (needs.Insert a b) = Unit {0}
IsDue D.Refuses (needs.NotAFunction t) = Unit {0}
IsDue D.Refuses (needs.NotARecord t) = Unit {0}
IsDue D.Refuses needs.NoSuchName = Unit {0}
IsDue _ _ = ⊥
