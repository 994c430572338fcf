-- Where the characters of a text stand: the offset, the line and the column of each.
use Rattle.std.specs.Prelude.{◌≡◌, ℕ, zero, suc, ◌+◌, ◌-◌, Bool, false, if◌then◌else◌, ◌==◌, List, [], ◌∷◌, length, take, drop}
use Rattle.std.specs.Char.{len_utf8}
use Rattle.std.specs.Str.{chars}
use Rattle.el_outside.specs.declared.place.Pos.{Pos}

-- a place: the bytes before it, and a line and a column that are counted from 1
pub record Place : Type 0 where
  pub at : ℕ
  pub line : ℕ
  pub col : ℕ

-- the place after a character that stands at p: only a line feed ends a line, and each other character is one column
abbrev pub after : ℕ → Place → Place
after c p = record { at = p.at + len_utf8 c; line = if c == 10 then p.line + 1 else p.line; col = if c == 10 then 1 else p.col + 1 }

-- what is left of a text: its characters, and the place of the first
pub record Rest : Type 0 where
  pub chars : List ℕ
  pub place : Place

-- a text begins at line 1 and column 1, and a U+FEFF that comes first takes its three bytes and no column
abbrev pub origin : Place
origin = record { at = 0; line = 1; col = 1 }

abbrev pub after_mark : Place
after_mark = record { at = 3; line = 1; col = 1 }

unfoldable pub start : List ℕ → Rest
start [] = record { chars = []; place = origin }
start (c ∷ cs) = if c == 0xFEFF then record { chars = cs; place = after_mark } else record { chars = c ∷ cs; place = origin }

-- without the first character
abbrev pub next_from : Place → List ℕ → Rest
next_from p [] = record { chars = []; place = p }
next_from p (c ∷ cs) = record { chars = cs; place = after c p }

abbrev pub next : Rest → Rest
next r = next_from r.place r.chars

-- without the first n characters
abbrev pub nexts : ℕ → Rest → Rest
nexts zero r = r
nexts (suc n) r = nexts n (next r)

-- whether x comes first
abbrev pub sees : ℕ → List ℕ → Bool
sees x [] = false
sees x (c ∷ cs) = c == x

-- that some characters lie between r and what is left later, s, and these characters
abbrev pub LeadsTo : Rest → Rest → Type 0
LeadsTo r s = drop (length r.chars - length s.chars) r.chars ≡ s.chars

abbrev pub between : Rest → Rest → List ℕ
between r s = take (length r.chars - length s.chars) r.chars

-- the place after the last of the characters, of which the first stands at p
abbrev pub end_from : Place → List ℕ → Place
end_from p [] = p
end_from p (c ∷ cs) = end_from (after c p) cs

abbrev pub end_of : Rest → Place
end_of r = end_from r.place r.chars

abbrev pub pos : Place → Pos
pos p = record { line = p.line; col = p.col }

-- the line and the column of an offset in a text: those of the place after the characters before it
abbrev pub pos_of : List ℕ → ℕ → Pos
pos_of bytes at = pos (end_of (start (chars (take at bytes))))
