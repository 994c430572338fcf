-- White space, and the longest sequence of characters that pass a test.
use Rattle.std.specs.Prelude.{ℕ, Bool, ◌||◌, if◌then◌else◌, ◌==◌, List, [], ◌∷◌}
use Rattle.std.specs.Char.{is_whitespace}
use Rattle.el_outside.specs.Place.{Place, Rest, after}

-- the Unicode property White_Space, or U+FEFF
abbrev pub is_white : ℕ → Bool
is_white c = is_whitespace c || c == 0xFEFF

-- the longest sequence at the front whose characters pass
abbrev pub front : (ℕ → Bool) → List ℕ → List ℕ
front p [] = []
front p (c ∷ cs) = if p c then c ∷ front p cs else []

-- what is left after it
abbrev pub past_from : (ℕ → Bool) → Place → List ℕ → Rest
past_from p at [] = record { chars = []; place = at }
past_from p at (c ∷ cs) = if p c then past_from p (after c at) cs else record { chars = c ∷ cs; place = at }

abbrev pub past : (ℕ → Bool) → Rest → Rest
past p r = past_from p r.place r.chars
