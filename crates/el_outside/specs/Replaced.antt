-- The text with a part of it exchanged.
use Rattle.std.specs.Prelude.{ℕ, List, ◌++◌, take, drop}
use Rattle.el_outside.specs.declared.place.Span.{Span}

abbrev pub replaced : List ℕ → Span → List ℕ → List ℕ
replaced text span new = take span.start text ++ new ++ drop span.end text
