-- What the code of printing is given, as the definition sees it.
use Rattle.std.specs.Prelude.{ℕ, List, Option}
use Rattle.core_rules.specs.Signature.{Signature, CorePat, PatShape, Pat, Origin}
use Rattle.core_print.specs.Names.{World}
use Rattle.core_print.specs.Variables.{WrittenVar}
use Rattle.core_print.specs.declared.variables.Variable.{Variable}
use Rattle.core_print.specs.declared.view.View.{View}

abbrev pub world : List (List ℕ) → Signature ℕ → List (Option ℕ) → World
world ns g hs = record { names = ns; signature = g; holes = hs }

abbrev pub world_of : View → World
world_of v = world v.names.now v.sig.now v.holes.now

abbrev pub variable_of : Variable → WrittenVar
variable_of v = record { place = v.place; name = v.name; fresh = v.fresh }

abbrev pub pat_shape : {A : Type 0} → CorePat A → PatShape A
pat_shape (Pat q o b) = q

abbrev pub pat_origin : {A : Type 0} → CorePat A → Origin
pat_origin (Pat q o b) = o
