-- What a table of lines keeps: where each line after the first begins.
use Rattle.std.specs.Prelude.{◌≡◌, ℕ, ◌+◌, ◌<◌, ◌≤◌, ◌^◌, List, length, take, slice_index}
use Rattle.std.specs.List.Sorted.{IsNonDecreasing}
use Rattle.std.specs.Str.{chars, IsUtf8, IsCharBoundary}
use Rattle.el_outside.specs.Place.{start, end_of}
use Rattle.el_outside.specs.declared.line_table.LineTable.TheInside.{Inside}

-- line n begins at the offset at
pub record BeginsAt (text : List ℕ) (n at : ℕ) : Type 0 where
  pub border : IsCharBoundary text at
  pub place : end_of (start (chars (take at text))) ≡ record { at = at; line = n; col = 1 }

-- the offsets of the second line and those after it, in order
pub record AreStarts (text starts : List ℕ) : Type 0 where
  pub each : (k : ℕ) → k < length starts → BeginsAt text (k + 2) (slice_index starts k)
  pub rising : IsNonDecreasing starts

pub record IsTable (t : Inside) : Type 0 where
  pub fits : length t.text.now + 2 ≤ 2 ^ 32
  pub utf8 : IsUtf8 t.text.now
  pub starts : AreStarts t.text.now t.starts.items
