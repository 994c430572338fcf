-- Why a data or record declaration is refused, and where.
use Rattle.el_outside.specs.declared.place.Pos.{Pos}
use Rattle.written_rules.specs.Refusals as written

-- BadSort: the type after the colon does not end in a sort, or is none, for a record. ConShape: the type of a constructor does not end in
-- its family at the family's own parameters. TooBig: the level of an argument or of a field is above the family's. Elab: what is said of an
-- expression of the declaration; OutOfFuel also where a head form that is tested is out of fuel
pub data Kind : Type 0 where
  BadSort : Kind
  ConShape : Kind
  TooBig : Kind
  Elab : written.Kind → Kind

pub record Refusal : Type 0 where
  pub pos : Pos
  pub kind : Kind

abbrev pub at : Pos → Kind → Refusal
at p k = record { pos = p; kind = k }

-- the refusal of an expression, as one of its declaration
abbrev pub elab : written.Refusal → Refusal
elab e = at e.pos (Elab e.kind)
