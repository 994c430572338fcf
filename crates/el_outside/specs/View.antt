-- What a cursor shows, and what it keeps: its three counts fit 32 bits.
use Rattle.std.specs.Prelude.{◌+◌, ◌^◌, ◌≤◌, length}
use Rattle.std.specs.Str.{chars}
use Rattle.el_outside.specs.Place.{Rest}
use Rattle.el_outside.specs.declared.cursor.Cursor.TheInside.{Inside}

abbrev pub rest_of : Inside → Rest
rest_of c = record { chars = chars c.rest.now; place = record { at = c.at; line = c.line; col = c.col } }

pub record IsSound (c : Inside) : Type 0 where
  pub at : c.at + length c.rest.now + 2 ≤ 2 ^ 32
  pub line : c.line ≤ c.at + 1
  pub col : c.col ≤ c.at + 1
