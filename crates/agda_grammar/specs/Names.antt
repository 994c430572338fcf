-- The text of a token: the bytes of its span.
use Rattle.std.specs.Prelude.{ℕ, Bool, ◌&&◌, ◌||◌, if◌then◌else◌, List, [], length, nat_le, nat_lt, slice_index, slice_range}
use Rattle.el_outside.specs.declared.place.Span.{Span}
use Rattle.source_tree.specs.declared.place.Name.{Name}
use Rattle.agda_grammar.specs.declared.sign.Mark.{Mark}

-- a character begins there, or the text ends
unfoldable pub is_border : List ℕ → ℕ → Bool
is_border text at = nat_le at (length text) && (nat_le (length text) at || (nat_lt (slice_index text at) 128 || nat_le 192 (slice_index text at)))

-- the bytes of a span; none if its ends are not between two characters, which is so at no token
unfoldable pub text_at : List ℕ → Span → List ℕ
text_at text span = if nat_le span.start span.end && (is_border text span.start && is_border text span.end) then slice_range text span.start span.end else []

abbrev pub name_of : List ℕ → Mark → Name
name_of text m = record { text = text_at text m.place.span; place = m.place }
