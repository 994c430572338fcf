-- A cursor's first place, and its step over a character.
use Rattle.std.proofs.Common.{ℕ, ◌≡◌, ◌+◌, List, [], ◌∷◌, eqb, true, false, refl, length, ◌++◌, ap, arith}
use Rattle.std.proofs.lemmas.Bool.Decides.{nat_tests}
use Rattle.std.proofs.lemmas.Str.{chars_past_char, length-encode}
use Rattle.std.proofs.lemmas.List.{length-append}
use Rattle.std.specs.Str.{chars, IsUtf8}
use Rattle.std.specs.Char.{len_utf8}
use Rattle.el_outside.specs.Place.{Place, after, start, origin, after_mark, next_from}
use lib.Utf8.{encode}

pub after_line : (c n : ℕ) (p : Place) → c ≡ 10 → n ≡ len_utf8 c → record { at = p.at + n; line = p.line + 1; col = 1 } ≡ after c p
after_line c n p is w = let t : eqb c 10 ≡ true = grind (arith, nat_tests) in rw (t, w) refl

pub after_column : (c n : ℕ) (p : Place) → (c ≡ 10 → ⊥) → n ≡ len_utf8 c → record { at = p.at + n; line = p.line; col = p.col + 1 } ≡ after c p
after_column c n p is w = let t : eqb c 10 ≡ false = grind (arith, nat_tests) in rw (t, w) refl

pub moved : (cs tail : List ℕ) (c : ℕ) (p q : Place) → cs ≡ c ∷ tail → q ≡ after c p → record { chars = tail; place = q } ≡ next_from p cs
moved cs tail c p q split is = rw (split, is) refl

-- the three ways in which a text begins
pub start_mark : (bs rest : List ℕ) (c : ℕ) → IsUtf8 bs → bs ≡ encode c ++ rest → c ≡ 0xFEFF → record { chars = chars rest; place = after_mark } ≡ start (chars bs)
unfolding start
start_mark bs rest c u e is = let t : eqb c 0xFEFF ≡ true = grind (arith, nat_tests) in rw (chars_past_char bs rest c u e, t) refl

pub start_other : (bs rest : List ℕ) (c : ℕ) → IsUtf8 bs → bs ≡ encode c ++ rest → (c ≡ 0xFEFF → ⊥) → record { chars = chars bs; place = origin } ≡ start (chars bs)
unfolding start
start_other bs rest c u e is = let t : eqb c 0xFEFF ≡ false = grind (arith, nat_tests) in rw (chars_past_char bs rest c u e, t) refl

pub start_nil : (bs : List ℕ) → length bs ≡ 0 → record { chars = chars bs; place = origin } ≡ start (chars bs)
unfolding start chars
start_nil [] e = refl
start_nil (b ∷ bs) e = absurd cc

pub mark_room : (bs rest : List ℕ) (c : ℕ) → bs ≡ encode c ++ rest → c ≡ 0xFEFF → length bs ≡ 3 + length rest
mark_room bs rest c e is = let w : length (encode c) ≡ 3 = rw is (length-encode 0xFEFF) in omega (arith, ap length e, length-append (encode c) rest)
